-- A device with a cache of some of its sectors. Our own.
use Rattle.std.specs.Prelude.{◌≡◌, ℕ, List, Option, Result, Ok}
use Rattle.sector_device.specs.Device.{DeviceState}
use Rattle.sector_device.specs.declared.device.DeviceError.{DeviceError}
use Rattle.sector_device.specs.declared.device.Sectors as sectors
use Rattle.sector_cache.specs.Kept.{kept_at}
use Rattle.sector_cache.specs.declared.cached.Cached.{Cached}

module _ {D : Type 0} {G : sectors.Ghosts D} where
  -- the device under it
  abbrev pub inner_of : Cached D G → D
  inner_of c = c.inner

  -- what the device under it shows
  abbrev pub state_of : Cached D G → DeviceState
  state_of c = G.state c.inner

  abbrev pub KeepsWord : Cached D G → Type 0
  KeepsWord c = G.keeps_word c.inner

  -- how often the device under it has failed
  abbrev pub failures_of : Cached D G → ℕ
  failures_of c = G.failed c.inner

  -- what is kept of a sector
  abbrev pub kept_in : Cached D G → ℕ → Option (List ℕ)
  kept_in c i = kept_at c.kept.entries i

  -- for how many sectors it has room
  abbrev pub capacity_of : Cached D G → ℕ
  capacity_of c = c.kept.cap

  -- the bytes came from the cache, and the device under it was not asked
  pub record IsServed (bytes : List ℕ) (result : Result (Unit {0}) DeviceError) (to : List ℕ)
      (old new : Cached D G) : Type 0 where
    pub ok : result ≡ Ok tt
    pub value : to ≡ bytes
    pub unasked : inner_of new ≡ inner_of old
