use Rattle.std.proofs.Common.{◌≡◌, take}
use Rattle.journal_device.specs.Calls.{journal_of}
use Rattle.journal_device.proofs.journal.journal_of.Given as goal

abbrev pub invariant-loop-call : goal.invariant-loop-call
invariant-loop-call l = l.journal.items ≡ journal_of (take l.call-index l.calls)
