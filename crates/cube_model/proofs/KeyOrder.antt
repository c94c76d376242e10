-- That keys are in a total order, in which only equal ones tie, as members do.
use Rattle.std.proofs.Common.{ap}
use Rattle.std.specs.Cmp.{IsTotalOrder, bool_cmp_total, on_total, then_total}
use Rattle.std.specs.Cmp.Lexicographic.{lists_total, nat_list_cmp_total}
use Rattle.std.specs.FinMap.{IsAntisymmetric, nat_cmp-IsAntisymmetric, slice_cmp-IsAntisymmetric}
use Rattle.std.specs.Prelude.{refl}
use Rattle.cube_model.specs.declared.answer.Member.TheVariants.{All, Text}
use Rattle.cube_model.specs.Keys.{is_all, member_bytes, member_cmp, key_cmp}

pub member_cmp_total : IsTotalOrder member_cmp
member_cmp_total = then_total (on_total is_all bool_cmp_total) (on_total member_bytes nat_list_cmp_total)

pub member_cmp-IsAntisymmetric : IsAntisymmetric member_cmp
member_cmp-IsAntisymmetric (Text x) (Text y) e = ap Text (slice_cmp-IsAntisymmetric nat_cmp-IsAntisymmetric x y e)
member_cmp-IsAntisymmetric (Text x) All e = cc
member_cmp-IsAntisymmetric All (Text y) e = cc
member_cmp-IsAntisymmetric All All e = refl

pub key_cmp_total : IsTotalOrder key_cmp
key_cmp_total = lists_total member_cmp_total

pub key_cmp-IsAntisymmetric : IsAntisymmetric key_cmp
key_cmp-IsAntisymmetric = slice_cmp-IsAntisymmetric member_cmp-IsAntisymmetric
