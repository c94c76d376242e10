-- The rules by which the fact that a session keeps has one proof at most, for `by` after its ghost field.
use Rattle.std.proofs.Props as below
use Rattle.std.specs.Prelude.{◌≡◌, false, ℕ, List, [], ◌∷◌}
use Rattle.std.specs.List.{list_any}
use Rattle.std.specs.Str.{bytes_eq}
use Rattle.dictionary.specs.Dictionary.{EachOnce}
use Rattle.object_store.specs.Content.{Content}
use Rattle.warehouse_root.specs.declared.layout.Layout.{Layout}
use Rattle.warehouse_root.specs.declared.layout.Layout.TheVariants.{First, Second}
use Rattle.warehouse_objects.specs.Represents.{HasModes}

pub HasModes-prop : (c : Content) (layout : Layout) (modes : List (List ℕ)) → IsProp (HasModes c layout modes)
HasModes-prop c First modes = hlevel below.props
HasModes-prop c Second modes = hlevel below.props

pub EachOnce-prop : (texts : List (List ℕ)) → IsProp (EachOnce texts)
EachOnce-prop [] = hlevel below.props
EachOnce-prop (text ∷ texts) =
    let once : IsProp (list_any (bytes_eq text) texts ≡ false) = hlevel below.props in
    λ x y i. (once x.0 y.0 i, EachOnce-prop texts x.1 y.1 i)

pub ruleset props = (below.props, HasModes-prop, EachOnce-prop)
