-- What a commit makes of a content. Our own.
use Rattle.std.specs.Prelude.{◌≢◌, ℕ, ◌+◌, ◌≤◌, ◌==◌, nat_lt, if◌then◌else◌, Option, Some, None, List, [], ◌∷◌, length}
use Rattle.std.specs.Prelude.{map, All, AllPairs}
use Rattle.std.proofs.Common.{Bor}
use Rattle.wire.specs.Limits.{most_object_bytes, most_objects, most_root_bytes}
use Rattle.object_store.specs.Content.{Content}

-- a list by ascending keys with one more, in the place of an earlier one with its key
abbrev pub put_by : {A : Type 0} → (A → ℕ) → A → List A → List A
put_by key x [] = x ∷ []
put_by key x (first ∷ rest) =
    if nat_lt (key x) (key first) then x ∷ first
    ∷ rest else (if key x == key first then x ∷ rest else first ∷ put_by key x rest)

-- the list without the one of this key
abbrev pub drop_by : {A : Type 0} → (A → ℕ) → ℕ → List A → List A
drop_by key id [] = []
drop_by key id (first ∷ rest) = if key first == id then drop_by key id rest else first ∷ drop_by key id rest

abbrev pub put_each : {A : Type 0} → (A → ℕ) → List A → List A → List A
put_each key [] list = list
put_each key (x ∷ xs) list = put_each key xs (put_by key x list)

abbrev pub drop_each : {A : Type 0} → (A → ℕ) → List ℕ → List A → List A
drop_each key [] list = list
drop_each key (id ∷ ids) list = drop_each key ids (drop_by key id list)

-- objects with these puts, of which the last one of an id counts
abbrev pub put_all : List (ℕ × List ℕ) → List (ℕ × List ℕ) → List (ℕ × List ℕ)
put_all puts objects = put_each (λ o. o.0) puts objects

-- objects without those with these ids
abbrev pub drop_all : List ℕ → List (ℕ × List ℕ) → List (ℕ × List ℕ)
drop_all drops objects = drop_each (λ o. o.0) drops objects

-- the content that a commit makes of another
unfoldable pub committed : List (ℕ × List ℕ) → List ℕ → List ℕ → ℕ → Content → Content
committed puts drops root layout c = record {
  generation = c.generation + 1;
  layout = layout;
  objects = put_all puts (drop_all drops c.objects);
  root = root;
}

-- the content that is made on a device without one
unfoldable pub created : List (ℕ × List ℕ) → List ℕ → ℕ → Content
created puts root layout = record { generation = 1; layout = layout; objects = put_all puts []; root = root }

-- the objects that are handed to a commit
abbrev pub puts_of : List (ℕ × Bor (List ℕ)) → List (ℕ × List ℕ)
puts_of puts = map (λ put. (put.0, put.1.now)) puts

-- an object's id and how many bytes it has
abbrev pub put_size : ℕ × List ℕ → ℕ × ℕ
put_size object = (object.0, length object.1)

-- an object has 1 to 134,217,728 bytes
pub record IsObject (object : ℕ × List ℕ) : Type 0 where
  pub least : 1 ≤ length object.1
  pub most : length object.1 ≤ most_object_bytes

-- what may be handed to a commit: objects of distinct ids
pub record ArePuts (puts : List (ℕ × List ℕ)) : Type 0 where
  pub each : All IsObject puts
  pub distinct : AllPairs (λ a b. a.0 ≢ b.0) puts

-- a root has 65,536 bytes at most
abbrev pub FitsRoot : List ℕ → Type 0
FitsRoot root = length root ≤ most_root_bytes

abbrev pub IsLayout : ℕ → Type 0
IsLayout layout = (1 ≤ layout) × (layout ≤ 2)

-- there are 65,536 objects at most
abbrev pub IsFew : Content → Type 0
IsFew c = length c.objects ≤ most_objects

-- the first one of a key
abbrev pub find_by : {A : Type 0} → (A → ℕ) → ℕ → List A → Option A
find_by key id [] = None
find_by key id (first ∷ rest) = if key first == id then Some first else find_by key id rest

-- what some puts leave of an object
abbrev pub among : List (ℕ × List ℕ) → ℕ → Option (List ℕ) → Option (List ℕ)
among [] id was = was
among (put ∷ puts) id was = among puts id (if put.0 == id then Some put.1 else was)

-- what is left of it where some are dropped
abbrev pub without : List ℕ → ℕ → Option (List ℕ) → Option (List ℕ)
without [] id was = was
without (drop ∷ drops) id was = without drops id (if drop == id then None else was)
