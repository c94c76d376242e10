use Rattle.std.proofs.Common.{List, [], ◌∷◌, ℕ, zero, suc, Option, length, map, slice_get, refl, sym, ◌∙◌, ap, subst}
use Rattle.std.proofs.lemmas.List.{length-map}
use Rattle.std.specs.List.{sum_by}
use Rattle.cube_model.specs.declared.rows.LineOrder.{LineOrder}
use Rattle.warehouse_root.specs.Root.{PlainRoot}
use Rattle.warehouse_root.specs.declared.cuboid.StoredCuboid.{StoredCuboid}
use Rattle.warehouse_objects.specs.Represents.{said_of}
use Rattle.warehouse_objects.specs.Warehouse.{Cuboid}
use Rattle.warehouse.specs.Status.{IsSaidAt}
use Rattle.warehouse.specs.Session.{content_of}
use Rattle.warehouse.proofs.Preparing.{rows_together}
use Rattle.warehouse.proofs.Cuboids.{represented_agrees}
use Rattle.warehouse.proofs.session.Session.status.Goals as goal

-- what the root says of each
said_at : (cuboids : List Cuboid) (place : ℕ)
    → IsSaidAt (slice_get cuboids place) (slice_get (map said_of cuboids) place)
said_at [] zero = tt
said_at [] (suc place) = tt
said_at (cuboid ∷ cuboids) zero = record { view = refl; mark = refl; runs = refl; cells = refl }
said_at (cuboid ∷ cuboids) (suc place) = said_at cuboids place

pub returns-clause-ok : goal.returns-clause-ok
returns-clause-ok g c w at k =
    let s = c.args.self.now in
    let agree = represented_agrees (content_of g.D.Sectors s) w s.modes (s.loaded at.fine k)
    (at.represents k) in record {
      layout = c.layout.ensures.value ∙ ap (λ (root : PlainRoot). root.layout) (sym agree.root_is);
      batches = ap length c.batches-batches.ensures.value
          ∙ ap (λ (root : PlainRoot). length root.batches) (sym agree.root_is)
          ∙ length-map w.batches (λ (batch : List LineOrder). length batch);
      rows = c.row_total.ensures
          ∙ ap (λ (l : List ℕ). sum_by (λ rows. rows) l)
          (c.batches-batches.ensures.value ∙ ap (λ (root : PlainRoot). root.batches) (sym agree.root_is))
          ∙ rows_together w.batches;
      additions = c.additions.ensures ∙ ap (λ (root : PlainRoot). root.additions) (sym agree.root_is);
      target = c.target.ensures ∙ ap (λ (root : PlainRoot). root.target) (sym agree.root_is);
      generation_is = c.generation.ensures;
      cuboids = λ place lt.
          subst (λ (said : Option StoredCuboid). IsSaidAt (slice_get w.cuboids place) said)
          (sym (c.in_places.ensures place lt
          ∙ ap (λ (l : List StoredCuboid). slice_get l place)
          (c.cuboids.ensures.value ∙ ap (λ (root : PlainRoot). root.cuboids) (sym agree.root_is))))
          (said_at w.cuboids place);
    }
