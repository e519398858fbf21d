-- Isolation where pages come to share a frame (Waldspurger, "Content-Based Page Sharing").
use Rattle.std.specs.Prelude.{◌≡◌, ℕ, true, false, List, Some}
use Rattle.esx_types.specs.declared.config.Config.{Config}
use Rattle.esx_model.specs.declared.look.Look.TheVariants.{OtherPage}
use Rattle.esx_model.specs.declared.scene.Place.TheVariants.{Here}
use Rattle.esx_model.specs.declared.scene.Vm.{Vm}
use Rattle.esx_model.specs.declared.scene.Site.{Site}
use Rattle.esx_model.specs.Places.{is_here, contents}
use Rattle.esx_model.specs.Site.{vm_at, place_at}
use Rattle.esx_model.specs.event.Sharing.{look, after_look}
use Rattle.esx_model.specs.sound.Sound.{IsSound}
use Rattle.esx_model.specs.Memory.{memory_at}

-- two pages of equal bytes that come into one frame leave the memory of each machine as it was
abbrev pub DoEqualPagesShare : Type 0
DoEqualPagesShare = (c : Config) (s : Site) (n page m other f g k : ℕ) (v w : Vm) (bytes others : List ℕ) → vm_at s n ≡ Some v → place_at v page ≡ Here bytes f false → vm_at s m ≡ Some w → place_at w other ≡ Here others g false →
    bytes ≡ others → memory_at c (after_look s n page bytes (OtherPage m other g)) k ≡ memory_at c s k

-- so does whatever is made of a look at a page
abbrev pub DoesLookKeep : Type 0
DoesLookKeep = (c : Config) (s : Site) (n page k : ℕ) (v : Vm) → IsSound c s → vm_at s n ≡ Some v → is_here (place_at v page) ≡ true →
    memory_at c (after_look s n page (contents c (place_at v page)) (look s n page (place_at v page))) k ≡ memory_at c s k
