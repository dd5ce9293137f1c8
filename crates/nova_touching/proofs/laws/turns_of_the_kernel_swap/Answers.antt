use Rattle.std.proofs.Common.{◌≡◌, ◌≢◌, ℕ, refl}
use Rattle.std.specs.Prelude.{Bool, true, false, ◌&&◌}
use Rattle.nova_model.specs.Runs.{after}
use Rattle.nova_model.specs.State.{KernelState}
use Rattle.law_swaps.specs.Touches.{AreSwapped, Touch, are_apart}
use Rattle.law_isolation.specs.Sound.{IsSound}
use Rattle.nova_search.specs.Merged.{IsApt}
use Rattle.nova_search.specs.Reductions.{Touches}
use Rattle.nova_search.specs.declared.merging.Merging.TheVariants.{Alike}
use Rattle.nova_touching.specs.Marks.{apart}
use Rattle.nova_touching.specs.Touching.{TouchesAtMost}
use Rattle.nova_touching.proofs.Swapping.{alike_sound}
use Rattle.nova_touching.proofs.laws.turns_of_the_kernel_swap.Goals as goal

pub returns : goal.returns
returns c = record {
  one = λ s t p a first second same touches. record {
    touch = record {
      sound = alike_sound s t same touches.touch.sound second.kept;
      touched = c.alike_states_touch_alike.ensures s t p a first.kept second.kept first.given second.given same touches.stays touches.touch.touched;
    };
    stays = c.plain_steps_tell_no_ticks.ensures.alike s t p same touches.stays;
  };
  state = λ s p q a b apt other first second is. (swapped s p q a b apt other first second is).state;
  first = λ s p q a b apt other first second is.
      let both = swapped s p q a b apt other first second is in record {
        touch = record { sound = kept s q first.touch.sound; touched = both.first };
        stays = c.plain_steps_tell_no_ticks.ensures.plain (after s q) p (both.first.plain (plain_of p a b is));
      };
  second = λ s p q a b apt other first second is.
      let both = swapped s p q a b apt other first second is in record {
        touch = record { sound = first.touch.sound; touched = both.second };
        stays = both.ticks second.stays;
      };
}
  where
    kept : (k : KernelState) (cpu : ℕ) → IsSound k → IsSound (after k cpu)
    kept = c.what_isolation_stands_on_is_kept.ensures.turns

    swapped : (s : KernelState) (p q : ℕ) (a b : Touch) → IsApt s → p ≢ q → Touches Touch TouchesAtMost Alike s p a → Touches Touch TouchesAtMost Alike (after s p) q b →
        apart p a q b ≡ true → AreSwapped s p q a b
    swapped s p q a b apt other first second is =
        c.turns_that_are_apart_change_places.ensures.any s p q a b first.touch.sound apt.given other first.touch.touched second.touch.touched second.stays is

    plain_of : (p : ℕ) (a b : Touch) → are_apart p a b ≡ true → a.is_plain ≡ true
    plain_of p a b is = by_plain a.is_plain _ is
      where
        by_plain : (t rest : Bool) → (t && rest) ≡ true → t ≡ true
        by_plain true rest h = refl
        by_plain false rest h = absurd cc
