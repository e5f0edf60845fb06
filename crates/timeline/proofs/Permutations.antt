-- The order of a plan's steps does not matter: what a plan keeps, it keeps in every order.
-- Assumes nothing.
use Prim.Native.Nat.{ℕ, suc, ◌+◌, ◌<◌, ◌≤◌}
use mathlib.Core.Path.{◌≡◌, refl, sym, ap, ap₂, ◌∙◌}
use mathlib.Core.Bool.{Bool, ◌||◌}
use mathlib.Core.List.{List, [], ◌∷◌, ◌++◌, append-nil}
use native.Mathlib.Omega.{arith}
use lib.ListN.{length}
use Rattle.lists.specs.Lists.{any}
use Rattle.job.specs.Job.{Job}
use Rattle.timeline.specs.Step.{Step, any_pair, total}
use Rattle.timeline.specs.Timeline.{held, store_use}
use Rattle.timeline.specs.Accepted.{clashing}
use Rattle.timeline.specs.Places.{Place, here, there, Member, EachStep, Permutation, empty, next_step}
use Rattle.timeline.specs.Keeps.{Keeps, OfJob, PlanOf}
use Rattle.timeline.proofs.Places.{any_place, total_place}
use Rattle.timeline.proofs.Places.{length_place, any_pair_place, place_wider, place_append, place_after}
use Rattle.timeline.proofs.HeldFacts.{held_same_members}
use Rattle.timeline.proofs.Clashes.{clashing_sym}
use Rattle.timeline.proofs.Shares.{use_at}

-- ---- an equivalence
pub permutation_refl : (P : List Step) → Permutation P P
permutation_refl [] = empty
permutation_refl (x ∷ P) = next_step here (permutation_refl P)

permutation_place : {x : Step} {Q P R : List Step} → Permutation Q R → Place x Q P → Permutation P (x ∷ R)
permutation_place k here = next_step here k
permutation_place (next_step j k) (there i) = next_step (there j) (permutation_place k i)

pub permutation_sym : {R P : List Step} → Permutation R P → Permutation P R
permutation_sym empty = empty
permutation_sym (next_step i k) = permutation_place (permutation_sym k) i

-- x taken from both, where y is put in after
pub place_exchange : {x y : Step} {W R P : List Step} → Place y R P → Place x W R
    → (Q : List Step) × Place x Q P × Place y W Q
place_exchange here j = (_, there j, here)
place_exchange (there i) here = (_, here, i)
place_exchange (there {y = z} i) (there j) =
    let r = place_exchange i j in (z ∷ r.0, there r.1, there r.2)

-- x taken from both
pub permutation_rest : {x : Step} {Q R P : List Step} → Permutation R P → Place x Q R
    → (W : List Step) × Place x W P × Permutation Q W
permutation_rest (next_step {Q = W} i k) here = (W, i, k)
permutation_rest (next_step i k) (there j) =
    let r = permutation_rest k j in
    let e = place_exchange i r.1 in
    (e.0, e.1, next_step e.2 r.2)
permutation_rest {Q = Q} empty x5 = elim x5 [ ]

pub permutation_trans : {R P K : List Step} → Permutation R P → Permutation P K → Permutation R K
permutation_trans empty l = l
permutation_trans (next_step i k) l =
    let r = permutation_rest l i in next_step r.1 (permutation_trans k r.2)

pub permutation_append : {R P : List Step} (K : List Step) → Permutation R P → Permutation (R ++ K) (P ++ K)
permutation_append K empty = permutation_refl K
permutation_append K (next_step i k) = next_step (place_append K i) (permutation_append K k)

-- ---- the same members
pub permutation_swap : (N K : List Step) → Permutation (N ++ K) (K ++ N)
permutation_swap [] K = rw (append-nil K) (permutation_refl K)
permutation_swap (x ∷ N) K = next_step (place_after K here) (permutation_swap N K)

pub permutation_member : {x : Step} {Q R P : List Step} → Permutation R P → Place x Q R → Member x P
permutation_member (next_step i k) here = (_, i)
permutation_member (next_step i k) (there j) = let r = permutation_member k j in place_wider i r.1
permutation_member {Q = Q} empty x5 = elim x5 [ ]

pub permutation_each : (F : Step → Type 0) {R P : List Step} → Permutation R P → EachStep F P → EachStep F R
permutation_each F k h x Q i = let r = permutation_member k i in h x r.0 r.1

-- ---- what is gathered is the same
pub permutation_any : (test : Step → Bool) {R P : List Step} → Permutation R P → any test R ≡ any test P
unfolding any
permutation_any test empty = refl
permutation_any test (next_step {x} i k) =
    ap (λ (b : Bool). test x || b) (permutation_any test k) ∙ sym (any_place test i)

pub permutation_total : (f : Step → ℕ) {R P : List Step} → Permutation R P → total f R ≡ total f P
permutation_total f empty = refl
permutation_total f (next_step {x} i k) =
    ap (λ (n : ℕ). f x + n) (permutation_total f k) ∙ sym (total_place f i)

pub permutation_length : {R P : List Step} → Permutation R P → length R ≡ length P
permutation_length empty = refl
permutation_length (next_step i k) = ap suc (permutation_length k) ∙ sym (length_place i)

pub permutation_pairs : (test : Step → Step → Bool) → ((x y : Step) → test x y ≡ test y x) → {R P : List Step}
    → Permutation R P → any_pair test R ≡ any_pair test P
permutation_pairs test symmetric empty = refl
permutation_pairs test symmetric (next_step {x} i k) =
    ap₂ ◌||◌ (permutation_any (test x) k) (permutation_pairs test symmetric k)
    ∙ sym (any_pair_place test symmetric i)

pub permutation_held : (S : ℕ) {R P : List Step} → Permutation R P → (t : ℕ) → held S R t ≡ held S P t
permutation_held S {R} {P} k =
    held_same_members S R P (λ x Q i. permutation_member k i) (λ x Q i. permutation_member (permutation_sym k) i)

pub permutation_keeps : (J : Job) (T goal : ℕ) {R P : List Step} → Permutation R P → Keeps J T goal P → Keeps J T goal R
permutation_keeps J T goal {R} {P} k keeps =
    record {
      lasting = permutation_each (λ x. x.start < x.stop) k keeps.lasting;
      in_time = permutation_each (λ x. x.stop ≤ T) k keeps.in_time;
      no_clash = permutation_pairs clashing clashing_sym k ∙ keeps.no_clash;
      pools = λ pool t l.
          let a = keeps.pools pool t l in let e = permutation_total (use_at J pool t) k in omega arith;
      stores = λ store l.
          let a = keeps.stores store l in let e = permutation_total (store_use J store) k in omega arith;
      needs_hold = λ x Q i n h.
          let r = permutation_member k i in
          rw (permutation_held J.start k x.start) (keeps.needs_hold x r.0 r.1 n h);
      goal_holds = λ n g. rw (permutation_held J.start k T) (keeps.goal_holds n g);
    }

pub plan_permuted : (J : Job) (T goal : ℕ) {R P : List Step} → Permutation R P → PlanOf J T goal P → PlanOf J T goal R
plan_permuted J T goal o plan =
    record {
      keeps = permutation_keeps J T goal o plan.keeps;
      own = permutation_each (OfJob J) o plan.own;
      known = permutation_each (λ x. x.number < length J.actions) o plan.known;
    }
