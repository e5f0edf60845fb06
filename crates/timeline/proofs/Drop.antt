-- A step without a critical fact can be dropped.
-- Assumes nothing.
use Prim.Native.Nat.{ℕ, zero, suc, ◌<◌, ◌≤◌}
use mathlib.Core.Path.{◌≡◌, sym, ap, ◌∙◌}
use mathlib.Core.Bool.{true}
use mathlib.Core.Logic.{◌⊎◌, ⊎_elim}
use mathlib.Core.List.{List}
use native.Mathlib.Omega.{arith}
use Rattle.facts.specs.FactSet.{has}
use Rattle.job.specs.Job.{Job}
use Rattle.timeline.specs.Step.{Step}
use Rattle.timeline.specs.Timeline.{held}
use Rattle.timeline.specs.Accepted.{clashing}
use Rattle.timeline.specs.Places.{Place, EachStep}
use Rattle.timeline.specs.Keeps.{Lasting, Keeps}
use Rattle.timeline.proofs.Places.{place_wider, each_wider, pairs_of_rest}
use Rattle.timeline.proofs.HeldFacts.{Added, NotDeleted, held_when_added, held_when_kept, held_comes_from}
use Rattle.timeline.proofs.HeldFacts.{added_or_not, added_by, not_deleted_rest}
use Rattle.timeline.proofs.Clashes.{NoClash, clashing_sym, no_clash_of_test}
use Rattle.timeline.proofs.Shares.{in_use_place, used_up_place}

-- Wanted t n: fact n is wanted at minute t. What is wanted at a minute and not added then is wanted the minute before.
abbrev pub WantedBefore : List Step → (ℕ → ℕ → Type 0) → Type 0
WantedBefore Q Wanted = (t n : ℕ) → Wanted (suc t) n → (Added Q (suc t) n → ⊥) → Wanted t n

-- x adds no critical fact: what it adds and is wanted then is added by another step too, or held the minute before
abbrev pub NothingCritical : ℕ → Step → List Step → List Step → (ℕ → ℕ → Type 0) → Type 0
NothingCritical S x Q P Wanted =
    (t n : ℕ) → x.stop ≡ suc t → Wanted (suc t) n → has x.action.adds n ≡ true
    → Added Q (suc t) n ⊎ (has (held S P t) n ≡ true)

-- what the steps of Q need at their starts, and the goal at minute T, is wanted
pub record Wants (T goal : ℕ) (Q : List Step) (Wanted : ℕ → ℕ → Type 0) : Type 0 where
  pub before : WantedBefore Q Wanted
  pub needs : EachStep (λ y. (n : ℕ) → has y.action.needs n ≡ true → Wanted y.start n) Q
  pub goals : (n : ℕ) → has goal n ≡ true → Wanted T n

-- what is wanted still holds without x
module _ (S : ℕ) {x : Step} {Q P : List Step} (i : Place x Q P) (lasting : Lasting P) (no_clash : NoClash P)
    (Wanted : ℕ → ℕ → Type 0) (before : WantedBefore Q Wanted) (spare : NothingCritical S x Q P Wanted) where
  -- no step that stops with x deletes what x adds
  not_deleted_beside : (t n : ℕ) → x.stop ≡ t → has x.action.adds n ≡ true → NotDeleted Q t n
  not_deleted_beside t n e a y R j s d =
      let w = place_wider i j in
      let l = lasting x Q i in
      let m = lasting y w.0 w.1 in
      (no_clash x Q i y R j (omega arith) (omega arith)).spared.adds n d a

  pub wanted_still_held : (t n : ℕ) → Wanted t n → has (held S P t) n ≡ true → has (held S Q t) n ≡ true
  wanted_still_held zero n w h = h
  wanted_still_held (suc t) n w h =
      ⊎_elim (λ a. held_when_added S Q t n a)
      (λ none.
      let earlier = wanted_still_held t n (before t n w none) in
      ⊎_elim
      (λ a.
      ⊎_elim
      (λ e.
      let at : x.stop ≡ suc t = sym (ap (λ (y : Step). y.stop) e) ∙ a.stops in
      let adds : has x.action.adds n ≡ true = rw e at a.adds in
      ⊎_elim (λ other. absurd (none other))
      (λ held. held_when_kept S Q t n (earlier held) (not_deleted_beside (suc t) n at adds))
      (spare t n at w adds))
      (λ other. absurd (none other))
      (added_by i (suc t) n a))
      (λ c. held_when_kept S Q t n (earlier c.0) (not_deleted_rest i (suc t) n c.1))
      (held_comes_from S P t n h))
      (added_or_not Q (suc t) n)

pub drop_without_critical_fact : (J : Job) (T goal : ℕ) {x : Step} {Q P : List Step} → Place x Q P → Keeps J T goal P
    → (Wanted : ℕ → ℕ → Type 0) → Wants T goal Q Wanted → NothingCritical J.start x Q P Wanted → Keeps J T goal Q
drop_without_critical_fact J T goal {x} {Q} {P} i keeps Wanted wants spare =
    record {
      lasting = each_wider (λ y. y.start < y.stop) i keeps.lasting;
      in_time = each_wider (λ y. y.stop ≤ T) i keeps.in_time;
      no_clash = pairs_of_rest clashing clashing_sym i keeps.no_clash;
      pools = λ pool t l. let a = keeps.pools pool t l in let e = in_use_place J pool t i in omega arith;
      stores = λ store l. let a = keeps.stores store l in let e = used_up_place J store i in omega arith;
      needs_hold = λ y R j n h.
          let w = place_wider i j in
          still y.start n (wants.needs y R j n h) (keeps.needs_hold y w.0 w.1 n h);
      goal_holds = λ n g. still T n (wants.goals n g) (keeps.goal_holds n g);
    }
  where
    still : (t n : ℕ) → Wanted t n → has (held J.start P t) n ≡ true → has (held J.start Q t) n ≡ true
    still =
        let no_clash = no_clash_of_test P keeps.no_clash in
        wanted_still_held J.start i keeps.lasting no_clash Wanted wants.before spare
