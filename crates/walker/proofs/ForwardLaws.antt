-- What holds at the minute of the next place.
-- Assumes nothing.
use Prim.Native.Nat.{ℕ, suc, ◌-◌, ◌/◌, ◌%◌, ◌<◌}
use mathlib.Core.Path.{◌≡◌, sym, ap, ap₂, ◌∙◌}
use mathlib.Core.List.{List}
use native.Mathlib.Nat.{div-add-mod, mod-lt}
use native.Mathlib.Omega.{arith}
use Rattle.facts.specs.FactSet.{union, difference}
use Rattle.timeline.specs.Step.{Step}
use Rattle.timeline.specs.Timeline.{deleted_at, added_at, held}

next_minute : (place : ℕ) → 0 < place → place % 64 ≡ 0 → place / 64 ≡ suc ((place - 1) / 64)
next_minute place l z =
    let d = div-add-mod place 64 in
    let e = div-add-mod (place - 1) 64 in
    let n : (place - 1) % 64 < 64 = mod-lt (place - 1) (omega arith) in
    omega arith

module _ (S : ℕ) (P : List Step) (place before : ℕ) (holds : before ≡ held S P ((place - 1) / 64)) where
  pub held_a_minute_later : 0 < place → place % 64 ≡ 0 → (gone added : ℕ) → gone ≡ deleted_at (place / 64) P
      → added ≡ added_at (place / 64) P → union (difference before gone) added ≡ held S P (place / 64)
  held_a_minute_later l z gone added g a =
      let e = next_minute place l z in
      ap₂ union (ap₂ difference holds (g ∙ ap (λ (t : ℕ). deleted_at t P) e)) (a ∙ ap (λ (t : ℕ). added_at t P) e)
      ∙ sym (ap (held S P) e)
