use Rattle.std.proofs.Common.{sym, subst, map, Bool, true, false}
use Rattle.std.specs.Bool.{OnTrue, OnFalse}
use Rattle.dimensions.specs.TextRows.{row_of_customer, row_of_supplier, row_of_part, row_of_date}
use Rattle.dimensions.specs.ShortTexts.{AreShortRows, IsShortRow}
use Rattle.dimensions.proofs.ShortLaws.{all_map, all_unmap}
use Rattle.dimensions.proofs.short.have_short_texts.Goals as goal

on_true : {P Q : Type 0} (b : Bool) → (P → Q) → OnTrue b P → OnTrue b Q
on_true true f p = f p
on_true false f p = p

on_false : {P Q : Type 0} (b : Bool) → (P → Q) → OnFalse b P → OnFalse b Q
on_false true f p = p
on_false false f p = f p

pub returns-then-not-are_short-clause-no : goal.returns-then-not-are_short-clause-no
returns-then-not-are_short-clause-no c =
    λ have. c.if-not-are_short.ensures.no
    (subst (λ l. AreShortRows (map row_of_customer l)) (sym c.as_slice.ensures)
    (all_map IsShortRow row_of_customer c.args.rows.now.customers have.customers))

pub returns-then-not-are_short-2-clause-no : goal.returns-then-not-are_short-2-clause-no
returns-then-not-are_short-2-clause-no c =
    λ have. c.if-not-are_short-2.ensures.no
    (subst (λ l. AreShortRows (map row_of_supplier l)) (sym c.as_slice-2.ensures)
    (all_map IsShortRow row_of_supplier c.args.rows.now.suppliers have.suppliers))

pub returns-then-not-are_short-3-clause-no : goal.returns-then-not-are_short-3-clause-no
returns-then-not-are_short-3-clause-no c =
    λ have. c.if-not-are_short-3.ensures.no
    (subst (λ l. AreShortRows (map row_of_part l)) (sym c.as_slice-3.ensures)
    (all_map IsShortRow row_of_part c.args.rows.now.parts have.parts))

pub returns-clause-yes : goal.returns-clause-yes
returns-clause-yes c =
    let customers =
    subst (λ l. AreShortRows (map row_of_customer l)) c.as_slice.ensures c.if-not-are_short.ensures.yes in
    let suppliers =
    subst (λ l. AreShortRows (map row_of_supplier l)) c.as_slice-2.ensures c.if-not-are_short-2.ensures.yes in
    let parts = subst (λ l. AreShortRows (map row_of_part l)) c.as_slice-3.ensures c.if-not-are_short-3.ensures.yes in
    on_true c.are_short-4.result (λ dates. record {
      customers = all_unmap IsShortRow row_of_customer c.args.rows.now.customers customers;
      suppliers = all_unmap IsShortRow row_of_supplier c.args.rows.now.suppliers suppliers;
      parts = all_unmap IsShortRow row_of_part c.args.rows.now.parts parts;
      dates = all_unmap IsShortRow row_of_date c.args.rows.now.dates
          (subst (λ l. AreShortRows (map row_of_date l)) c.as_slice-4.ensures dates);
    }) c.are_short-4.ensures.yes

pub returns-clause-no : goal.returns-clause-no
returns-clause-no c =
    on_false c.are_short-4.result
    (λ none have. none
    (subst (λ l. AreShortRows (map row_of_date l)) (sym c.as_slice-4.ensures)
    (all_map IsShortRow row_of_date c.args.rows.now.dates have.dates))) c.are_short-4.ensures.no
