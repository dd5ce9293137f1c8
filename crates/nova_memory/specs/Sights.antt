-- The viewers of a frame: the protection domains whose memory leads to it, as far as that is remembered.
use Rattle.std.specs.Prelude.{ℕ, ◌≡◌, ◌==◌, ◌+◌, ◌^◌, ◌&&◌, nat_le, nat_lt, Bool, List, Option, None, IfSome, slice_get, take, if◌then◌else◌}
use Rattle.std.specs.List.{list_any}
use Rattle.nova_model.specs.Delegations.{is_memory}
use Rattle.nova_model.specs.Inputs.{leads_to}
use Rattle.nova_model.specs.State.{entry}
use Rattle.nova_model.specs.declared.delegation.Derivation.{Derivation}
use Rattle.nova_memory.specs.declared.sights.Sight.{Sight}
use Rattle.nova_memory.specs.declared.viewers.Viewers.{Viewers}

abbrev pub domains_of : Viewers → List ℕ
domains_of v = take v.count v.domains

-- the protection domain is one of these
abbrev pub sees : Viewers → ℕ → Bool
sees v pd = list_any (λ p. p == pd) (domains_of v)

-- these see the frame, and no other does
abbrev pub AreViewers : List Derivation → ℕ → Viewers → Type 0
AreViewers list frame v = (pd : ℕ) → list_any (leads_to pd frame) list ≡ sees v pd

-- what is known of frames is so
abbrev pub AreSeen : List Derivation → List (Option Viewers) → Type 0
AreSeen list sights = (frame : ℕ) → IfSome (entry (slice_get sights frame)) (AreViewers list frame)

-- nothing is known of any frame
abbrev pub IsBlank : List (Option Viewers) → Type 0
IsBlank sights = (frame : ℕ) → entry (slice_get sights frame) ≡ None

-- what was found at another version is no longer known
abbrev pub shown_at : ℕ → Sight → Option Viewers
shown_at version x = if x.version == version then x.viewers else None

-- a derivation of memory leads to the frame
abbrev pub reaches : ℕ → Derivation → Bool
reaches frame d = is_memory d.kind && (nat_le d.target frame && nat_lt frame (d.target + 2 ^ d.order))
