-- Cells that are compared part by part.
use Rattle.std.proofs.Common.{◌≡◌, ◌&&◌, Bool, true, false, ap, eqb, refl}
use Rattle.std.specs.Bool.{Decides}
use Rattle.std.specs.Ordering.{int_eq}
use Rattle.std.proofs.lemmas.Bool.Decides.{Decides-eqb, Decides-int_eq}
use Rattle.cuboid_cells.specs.declared.cell.Cell.{Cell}
use Rattle.cuboid_cells.specs.declared.key.Key.{Key}
use Rattle.cuboid_cells.specs.declared.summary.Summaries.{Summaries}
use Rattle.cuboid_cells.specs.declared.summary.Summary.{Summary}

-- two tests
both : (x y : Bool) (P Q : Type 0) → Decides x P → Decides y Q → Decides (x && y) (P × Q)
both true y P Q one other = (λ is. (one.0 refl, other.0 is), λ parts. other.1 parts.1)
both false y P Q one other = (λ is. absurd cc, λ parts. one.1 parts.0)

-- what follows from what is tested, and gives it
through : (x : Bool) (P Q : Type 0) → Decides x P → (P → Q) → (Q → P) → Decides x Q
through x P Q test to from = (λ is. to (test.0 is), λ q. test.1 (from q))

abbrev same_key : Key → Key → Bool
same_key a b =
    eqb a.customer b.customer &&
    (eqb a.supplier b.supplier && (eqb a.part b.part && (eqb a.date b.date && eqb a.ship_mode b.ship_mode)))

key_is : (a b : Key) → Decides (same_key a b) (a ≡ b)
key_is a b =
    through (same_key a b)
    ((a.customer ≡ b.customer)
    × ((a.supplier ≡ b.supplier) × ((a.part ≡ b.part) × ((a.date ≡ b.date) × (a.ship_mode ≡ b.ship_mode))))) (a ≡ b)
    (both (eqb a.customer b.customer)
    (eqb a.supplier b.supplier && (eqb a.part b.part && (eqb a.date b.date && eqb a.ship_mode b.ship_mode)))
    (a.customer ≡ b.customer)
    ((a.supplier ≡ b.supplier) × ((a.part ≡ b.part) × ((a.date ≡ b.date) × (a.ship_mode ≡ b.ship_mode))))
    (Decides-eqb a.customer b.customer)
    (both (eqb a.supplier b.supplier) (eqb a.part b.part && (eqb a.date b.date && eqb a.ship_mode b.ship_mode))
    (a.supplier ≡ b.supplier) ((a.part ≡ b.part) × ((a.date ≡ b.date) × (a.ship_mode ≡ b.ship_mode)))
    (Decides-eqb a.supplier b.supplier)
    (both (eqb a.part b.part) (eqb a.date b.date && eqb a.ship_mode b.ship_mode) (a.part ≡ b.part)
    ((a.date ≡ b.date) × (a.ship_mode ≡ b.ship_mode)) (Decides-eqb a.part b.part)
    (both (eqb a.date b.date) (eqb a.ship_mode b.ship_mode) (a.date ≡ b.date) (a.ship_mode ≡ b.ship_mode)
    (Decides-eqb a.date b.date) (Decides-eqb a.ship_mode b.ship_mode)))))
    (λ p i. record {
      customer = p.0 i;
      supplier = p.1.0 i;
      part = p.1.1.0 i;
      date = p.1.1.1.0 i;
      ship_mode = p.1.1.1.1 i;
    })
    (λ e. (
      ap (λ (k : Key). k.customer) e,
      (
        ap (λ (k : Key). k.supplier) e,
        (ap (λ (k : Key). k.part) e, (ap (λ (k : Key). k.date) e, ap (λ (k : Key). k.ship_mode) e)),
      ),
    ))

abbrev same_summary : Summary → Summary → Bool
same_summary a b = int_eq a.sum b.sum && (int_eq a.least b.least && int_eq a.greatest b.greatest)

summary_is : (a b : Summary) → Decides (same_summary a b) (a ≡ b)
summary_is a b =
    through (same_summary a b) ((a.sum ≡ b.sum) × ((a.least ≡ b.least) × (a.greatest ≡ b.greatest))) (a ≡ b)
    (both (int_eq a.sum b.sum) (int_eq a.least b.least && int_eq a.greatest b.greatest) (a.sum ≡ b.sum)
    ((a.least ≡ b.least) × (a.greatest ≡ b.greatest)) (Decides-int_eq a.sum b.sum)
    (both (int_eq a.least b.least) (int_eq a.greatest b.greatest) (a.least ≡ b.least) (a.greatest ≡ b.greatest)
    (Decides-int_eq a.least b.least) (Decides-int_eq a.greatest b.greatest)))
    (λ p i. record { sum = p.0 i; least = p.1.0 i; greatest = p.1.1 i })
    (λ e. (ap (λ (s : Summary). s.sum) e, (ap (λ (s : Summary). s.least) e, ap (λ (s : Summary). s.greatest) e)))

-- tests of a summary, and of what follows
one_more : (a b : Summary) (y : Bool) (Q : Type 0) → Decides y Q → Decides (same_summary a b && y) ((a ≡ b) × Q)
one_more a b y Q rest = both (same_summary a b) y (a ≡ b) Q (summary_is a b) rest

abbrev same_last : Summaries → Summaries → Bool
same_last a b =
    same_summary a.supplycost b.supplycost && (same_summary a.discounted b.discounted && same_summary a.profit b.profit)

abbrev AreSameLast : Summaries → Summaries → Type 0
AreSameLast a b = (a.supplycost ≡ b.supplycost) × ((a.discounted ≡ b.discounted) × (a.profit ≡ b.profit))

last_are : (a b : Summaries) → Decides (same_last a b) (AreSameLast a b)
last_are a b =
    one_more a.supplycost b.supplycost (same_summary a.discounted b.discounted && same_summary a.profit b.profit)
    ((a.discounted ≡ b.discounted) × (a.profit ≡ b.profit))
    (one_more a.discounted b.discounted (same_summary a.profit b.profit) (a.profit ≡ b.profit)
    (summary_is a.profit b.profit))

abbrev same_summaries : Summaries → Summaries → Bool
same_summaries a b =
    same_summary a.quantity b.quantity &&
    (same_summary a.extendedprice b.extendedprice && (same_summary a.revenue b.revenue && same_last a b))

summaries_are : (a b : Summaries) → Decides (same_summaries a b) (a ≡ b)
summaries_are a b =
    through (same_summaries a b)
    ((a.quantity ≡ b.quantity)
    × ((a.extendedprice ≡ b.extendedprice) × ((a.revenue ≡ b.revenue) × AreSameLast a b))) (a ≡ b)
    (one_more a.quantity b.quantity
    (same_summary a.extendedprice b.extendedprice && (same_summary a.revenue b.revenue && same_last a b))
    ((a.extendedprice ≡ b.extendedprice) × ((a.revenue ≡ b.revenue) × AreSameLast a b))
    (one_more a.extendedprice b.extendedprice (same_summary a.revenue b.revenue && same_last a b)
    ((a.revenue ≡ b.revenue) × AreSameLast a b)
    (one_more a.revenue b.revenue (same_last a b) (AreSameLast a b) (last_are a b))))
    (λ p i. record {
      quantity = p.0 i;
      extendedprice = p.1.0 i;
      revenue = p.1.1.0 i;
      supplycost = p.1.1.1.0 i;
      discounted = p.1.1.1.1.0 i;
      profit = p.1.1.1.1.1 i;
    })
    (λ e. (
      ap (λ (s : Summaries). s.quantity) e,
      (
        ap (λ (s : Summaries). s.extendedprice) e,
        (
          ap (λ (s : Summaries). s.revenue) e,
          (
            ap (λ (s : Summaries). s.supplycost) e,
            (ap (λ (s : Summaries). s.discounted) e, ap (λ (s : Summaries). s.profit) e),
          ),
        ),
      ),
    ))

abbrev pub same_cell : Cell → Cell → Bool
same_cell a b = same_key a.key b.key && (eqb a.count b.count && same_summaries a.measures b.measures)

-- cells are the same where their keys, counts and measures are
pub cell_is : (a b : Cell) → Decides (same_cell a b) (a ≡ b)
cell_is a b =
    through (same_cell a b) ((a.key ≡ b.key) × ((a.count ≡ b.count) × (a.measures ≡ b.measures))) (a ≡ b)
    (both (same_key a.key b.key) (eqb a.count b.count && same_summaries a.measures b.measures) (a.key ≡ b.key)
    ((a.count ≡ b.count) × (a.measures ≡ b.measures)) (key_is a.key b.key)
    (both (eqb a.count b.count) (same_summaries a.measures b.measures) (a.count ≡ b.count) (a.measures ≡ b.measures)
    (Decides-eqb a.count b.count) (summaries_are a.measures b.measures)))
    (λ p i. record { key = p.0 i; count = p.1.0 i; measures = p.1.1 i })
    (λ e. (ap (λ (x : Cell). x.key) e, (ap (λ (x : Cell). x.count) e, ap (λ (x : Cell). x.measures) e)))
