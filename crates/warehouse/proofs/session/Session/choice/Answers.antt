use Rattle.std.proofs.lemmas.Bool.{false≢true}
use Rattle.std.proofs.Common.{◌≡◌, ℕ, List, length, sym, ◌∙◌, ap, subst, arith}
use Rattle.std.specs.List.{sum_by}
use Rattle.std.specs.Option.{option_map}
use Rattle.cube_model.specs.Admission.{all_rows}
use Rattle.lattice.specs.declared.counts.Counts.{Counts}
use Rattle.lattice.specs.declared.view.View.{View}
use Rattle.view_choice.specs.Choice.{IsGreedy, Lattice, benefits}
use Rattle.warehouse_root.specs.Root.{PlainRoot}
use Rattle.warehouse.specs.Choosing.{choices_asked, counts_of, lattice_asked, members_counted, views_of}
use Rattle.warehouse.specs.Session.{content_of}
use Rattle.warehouse.proofs.Choices.{rows_at_most}
use Rattle.warehouse.proofs.Preparing.{rows_together}
use Rattle.warehouse.proofs.Cuboids.{represented_agrees}
use Rattle.warehouse.proofs.session.Session.choice.Goals as goal

pub of-requires : goal.of-requires
of-requires g c =
    let proper = c.batches.ensures.proper in
    let total : c.row_total-rows.result ≡ sum_by (λ rows. rows) c.args.self.now.root.batches = c.row_total-rows.ensures
    ∙ ap (λ (l : List ℕ). sum_by (λ rows. rows) l) c.batches.ensures.value in
    record {
      rows = omega (arith, total, rows_at_most c.args.self.now.root.batches proper.rows, proper.most_batches);
      few = λ many. false≢true (c.if-are_too_many.ensures.1 many);
    }

pub returns-in-Ok-clause-ok : goal.returns-in-Ok-clause-ok
returns-in-Ok-clause-ok g c w at k =
    let s = c.args.self.now in
    let choice = c.in-Ok.choice in
    let agree = represented_agrees (content_of g.D.Sectors s) w s.modes (s.loaded at.fine k)
    (at.represents k) in
    let rows : c.row_total-rows.result ≡ length (all_rows w.batches)
    = c.row_total-rows.ensures
    ∙ ap (λ (l : List ℕ). sum_by (λ rows. rows) l)
    (c.batches.ensures.value ∙ ap (λ (root : PlainRoot). root.batches) (sym agree.root_is)) ∙ rows_together w.batches in
    let rows_are : c.deref.result.now ≡ w.rows = c.deref.ensures ∙ sym agree.rows_are in
    let counted = c.ship_mode_count.ensures w at k in
    let counts : c.counts_of-counts.result ≡ counts_of w = c.counts_of-counts.ensures
    ∙ (λ i. members_counted (rows_are i) (counted i)) in
    let asked = option_map (λ views. views.now) c.args.asked in
    let same : lattice_asked c.row_total-rows.result c.counts_of-counts.result asked ≡ choices_asked w asked
    = ap (λ (n : ℕ). lattice_asked n c.counts_of-counts.result asked) rows
    ∙ ap (λ (m : Counts). lattice_asked (length (all_rows w.batches)) m asked) counts in record {
      greedy = subst (λ (l : Lattice View). IsGreedy l c.args.k (views_of choice.chosen.items)) same
          (subst (λ (v : List View). IsGreedy (lattice_asked c.row_total-rows.result c.counts_of-counts.result asked)
          c.args.k
          v) c.in-Ok.ensures.views c.in-Ok.ensures.greedy);
      benefits_are = c.in-Ok.ensures.benefits ∙ ap (λ (l : Lattice View). benefits l choice.views.items) same
          ∙ ap (λ (v : List View). benefits (choices_asked w asked) v) c.in-Ok.ensures.views;
    }
