-- A part of a plan uses no more than the plan, has no more steps and no clash that the plan has not.
-- Assumes nothing.
use Prim.Native.Nat.{ℕ, ◌≤◌}
use mathlib.Core.Path.{◌≡◌, refl}
use mathlib.Core.Bool.{Bool, false}
use mathlib.Core.List.{List, [], ◌∷◌, ◌++◌}
use native.Mathlib.Omega.{arith}
use lib.ListN.{length}
use Rattle.job.specs.Job.{Job}
use Rattle.timeline.specs.Step.{Step, any_pair, total}
use Rattle.timeline.specs.Timeline.{in_use, store_use, used_up}
use Rattle.timeline.specs.Accepted.{clashing}
use Rattle.timeline.specs.Places.{Place, here, there, Member, EachStep}
use Rattle.timeline.proofs.Tests.{or_neither}
use Rattle.timeline.proofs.Places.{total_place, length_place, place_wider, any_of_none, pair_none, pairs_of_rest}
use Rattle.timeline.proofs.Clashes.{clashing_sym}
use Rattle.timeline.proofs.Shares.{use_at}

-- the steps of the first list stand in the second, each at a place of its own
pub data Part : List Step → List Step → Type 0 where
  nothing : {P : List Step} → Part [] P
  one_more : {x : Step} {R Q P : List Step} → Place x Q P → Part R Q → Part (x ∷ R) P

pub part_total : (f : Step → ℕ) {R P : List Step} → Part R P → total f R ≤ total f P
part_total f nothing = omega arith
part_total f (one_more i k) = let a = total_place f i in let b = part_total f k in omega arith

pub part_in_use : (J : Job) (pool t : ℕ) {R P : List Step} → Part R P → in_use J pool t R ≤ in_use J pool t P
part_in_use J pool t k = part_total (use_at J pool t) k

pub part_used_up : (J : Job) (store : ℕ) {R P : List Step} → Part R P → used_up J store R ≤ used_up J store P
part_used_up J store k = part_total (store_use J store) k

pub part_length : {R P : List Step} → Part R P → length R ≤ length P
part_length nothing = omega arith
part_length (one_more i k) = let a = length_place i in let b = part_length k in omega arith

pub part_member : {x : Step} {Q R P : List Step} → Part R P → Place x Q R → Member x P
part_member (one_more i k) here = (_, i)
part_member (one_more i k) (there j) = let r = part_member k j in place_wider i r.1
part_member {Q = Q} (nothing {P = P}) x5 = elim x5 [ ]

pub part_each : (F : Step → Type 0) {R P : List Step} → Part R P → EachStep F P → EachStep F R
part_each F k h x Q i = let r = part_member k i in h x r.0 r.1

pub part_pairs : (test : Step → Step → Bool) → ((x y : Step) → test x y ≡ test y x) → {R P : List Step} → Part R P
    → any_pair test P ≡ false → any_pair test R ≡ false
part_pairs test symmetric nothing h = refl
part_pairs test symmetric (one_more {x} {R} i k) h =
    or_neither
    (any_of_none (test x) R (λ y Q j. let r = part_member k j in pair_none test symmetric i r.1 h))
    (part_pairs test symmetric k (pairs_of_rest test symmetric i h))

pub part_no_clash : {R P : List Step} → Part R P → any_pair clashing P ≡ false → any_pair clashing R ≡ false
part_no_clash k h = part_pairs clashing clashing_sym k h

-- ---- which lists are parts
pub part_wider : {R P : List Step} (y : Step) → Part R P → Part R (y ∷ P)
part_wider y nothing = nothing
part_wider y (one_more i k) = one_more (there i) (part_wider y k)

pub part_whole : (P : List Step) → Part P P
part_whole [] = nothing
part_whole (x ∷ P) = one_more here (part_whole P)

pub part_left : (R K : List Step) → Part R (R ++ K)
part_left [] K = nothing
part_left (x ∷ R) K = one_more here (part_left R K)

pub part_right : (R K : List Step) → Part K (R ++ K)
part_right [] K = part_whole K
part_right (x ∷ R) K = part_wider x (part_right R K)
