-- Sums of what the chosen steps use, and the tests of pools and stores.
-- Assumes nothing.
use Prim.Native.Nat.{ℕ, suc, ◌+◌, ◌*◌, ◌^◌, ◌≤◌, ◌<◌}
use mathlib.Core.Path.{◌≡◌, sym, ap, ap₂, ◌∙◌}
use mathlib.Core.Bool.{Bool, true, cond, ◌&&◌}
use mathlib.Core.List.{List, ◌∷◌}
use mathlib.Core.Logic.{⊎_elim}
use native.Mathlib.Nat.{eq-or-lt_of_le, le_refl}
use native.Mathlib.Omega.{arith}
use lib.Dec.{leb, ltb}
use lib.ListN.{length, get_or, set, length-set, replicate, get_or-replicate}
use lib.Seq.{get_or-set_same, get_or-set_other}
use borrow.Author.Tests.{lt-ltb, ltb-true, leb-true, le-leb}
use Rattle.lists.proofs.Below.{below_same}
use Rattle.lists.proofs.Bools.{and_left, and_right}
use Rattle.job.specs.Resources.{handover, HandoversOf}
use Rattle.job.specs.Job.{Job}
use Rattle.timeline.specs.Step.{Step, step_of}
use Rattle.timeline.specs.Timeline.{has_share}
use Rattle.timeline.proofs.Shares.{share_reads, share_when}
use Rattle.timeline.proofs.Tests.{same_test, and_both}
use Rattle.tables.specs.Tables.{DescribesAction, Describes, duration_at}
use Rattle.tables.specs.declared.Frame.{Frame}
use Rattle.states.specs.declared.amounts.Uses.{Uses}
use Rattle.states.specs.Amounts.{HoldsUse, UsesOf, Sums, Small, Added, UsesNothing, JoinsUses}
use Rattle.states.specs.Amounts.{exceeds, exceeds_pools, exceeds_stores}

-- ---- sums of few amounts

zeros : (sums : List ℕ) → sums ≡ replicate 4 0 → (k : ℕ) → k < 4 → get_or sums k 0 ≡ 0
zeros sums e k l = rw e (get_or-replicate {A = ℕ} 4 k 0 0 l)

sums_of_none : (sums : List ℕ) → sums ≡ replicate 4 0 → Sums 0 sums
sums_of_none sums e = record { four = ap length e; small = λ k l. let z = zeros sums e k l in omega arith }

pub nothing_used : (r : Uses) → r.before ≡ replicate 4 0 → r.now ≡ replicate 4 0 → r.spent ≡ replicate 4 0
    → UsesNothing r
nothing_used r e f g =
    record {
      small = record { before = sums_of_none _ e; now = sums_of_none _ f; spent = sums_of_none _ g };
      nothing = λ J t.
          record {
            before = λ m s pool few inside. zeros _ e pool few;
            now = λ pool few inside. zeros _ f pool few;
            spent = λ store few inside. zeros _ g store few;
          };
    }

pub sums_of_more : (m n : ℕ) (sums : List ℕ) → m ≤ n → Sums m sums → Sums n sums
sums_of_more m n sums l s = record { four = s.four; small = λ k b. let e = s.small k b in omega arith }

pub small_with_more : (m n : ℕ) (uses : Uses) → m ≤ n → Small m uses → Small n uses
small_with_more m n uses l s =
    record {
      before = sums_of_more m n _ l s.before;
      now = sums_of_more m n _ l s.now;
      spent = sums_of_more m n _ l s.spent;
    }

-- ---- the table's amounts, added one after the other

-- the first k sums have their amounts, the others are as before
pub record AddedTo (numbers : List ℕ) (at : ℕ) (counts : ℕ → Bool) (sums : List ℕ) (k : ℕ) (out : List ℕ) : Type 0
  where
    pub four : length out ≡ 4
    pub done : (j : ℕ) → j < k
        → (get_or out j 0 ≡ cond (counts j) (get_or numbers (at + j) 0) 0 + get_or sums j 0)
        × (cond (counts j) (get_or numbers (at + j) 0) 0 < 2 ^ 32)
    pub rest : (j : ℕ) → k ≤ j → get_or out j 0 ≡ get_or sums j 0

module _ (numbers : List ℕ) (at : ℕ) (counts : ℕ → Bool) (sums : List ℕ) where
  pub added_on : (k amount : ℕ) (out : List ℕ) → k < 4 → amount ≡ cond (counts k) (get_or numbers (at + k) 0) 0
      → amount < 2 ^ 32 → AddedTo numbers at counts sums k out
      → AddedTo numbers at counts sums (k + 1) (set out k (amount + get_or out k 0))
  added_on k amount out l e small a =
      let four = a.four in
      record {
        four = length-set out k _ ∙ four;
        done = λ j m.
            ⊎_elim
            (λ same.
            let here : j ≡ k = omega arith in
            rw here (
              get_or-set_same out k (amount + get_or out k 0) 0 (omega arith)
                  ∙ ap₂ ◌+◌ e (a.rest k (le_refl k)),
              rw e at small,
            ))
            (λ less.
            let other : j ≡ k → ⊥ = λ d. omega arith in
            rw (get_or-set_other out k j (amount + get_or out k 0) 0 other) (a.done j (omega arith)))
            (eq-or-lt_of_le m);
        rest = λ j m.
            let other : j ≡ k → ⊥ = λ d. omega arith in
            get_or-set_other out k j (amount + get_or out k 0) 0 other ∙ a.rest j (omega arith);
      }

-- ---- one step more
module _ (numbers handovers : List ℕ) (t i start : ℕ) (uses r : Uses)
    (before : Added numbers (i * 9 + 1)
    (λ k. leb t (start + duration_at numbers i) && ltb start (t + get_or handovers k 0)) uses.before r.before)
    (now : Added numbers (i * 9 + 1)
    (λ k. ltb t (start + duration_at numbers i) && ltb start (t + 1 + get_or handovers k 0)) uses.now r.now)
    (spent : Added numbers (i * 9 + 5) (λ k. true) uses.spent r.spent) where
  joined_small : (n : ℕ) → Small n uses → Small (n + 1) r
  joined_small n s =
      record {
        before = before.more n s.before;
        now = now.more n s.now;
        spent = spent.more n s.spent;
      }

  module _ (J : Job) (sets : List ℕ) (described : DescribesAction J sets numbers i) (waits : HandoversOf J handovers)
      (L : List Step) where
    abbrev x : Step
    x = step_of J i start

    -- the step's share of the pools in a minute in which the test says that it has one
    share_joined : (m : ℕ) (test : ℕ → Bool) (old new : List ℕ)
        → ((pool : ℕ) → pool < length J.pools → test pool ≡ has_share J pool (m + handover J pool) x)
        → Added numbers (i * 9 + 1) test old new → HoldsUse J m L old → HoldsUse J m (x ∷ L) new
    share_joined m test old new same added holds pool few inside =
        added.each pool few
        ∙ ap₂ ◌+◌ (ap₂ (λ b (n : ℕ). cond b n 0) (same pool inside) (described.pools pool inside))
        (holds pool few inside)

    has_share_now : (pool : ℕ) → pool < length J.pools
        → (ltb t (start + duration_at numbers i) && ltb start (t + 1 + get_or handovers pool 0))
        ≡ has_share J pool (t + handover J pool) x
    has_share_now pool inside =
        let wait = waits pool inside in
        let duration = described.duration in
        same_test _ _
        (λ h.
        let runs = ltb-true t _ (and_left (ltb t (start + duration_at numbers i)) _ h) in
        let begun = ltb-true start _ (and_right (ltb t (start + duration_at numbers i)) _ h) in
        share_when J pool (t + handover J pool) x (omega arith) (omega arith))
        (λ h.
        let r = share_reads J pool (t + handover J pool) x h in
        let begun = r.0 in
        let until = r.1 in
        and_both (lt-ltb t _ (omega arith)) (lt-ltb start _ (omega arith)))

    has_share_before : (m : ℕ) → suc m ≡ t → (pool : ℕ) → pool < length J.pools
        → (leb t (start + duration_at numbers i) && ltb start (t + get_or handovers pool 0))
        ≡ has_share J pool (m + handover J pool) x
    has_share_before m e pool inside =
        let wait = waits pool inside in
        let duration = described.duration in
        same_test _ _
        (λ h.
        let runs = leb-true t _ (and_left (leb t (start + duration_at numbers i)) _ h) in
        let begun = ltb-true start _ (and_right (leb t (start + duration_at numbers i)) _ h) in
        share_when J pool (m + handover J pool) x (omega arith) (omega arith))
        (λ h.
        let r = share_reads J pool (m + handover J pool) x h in
        let begun = r.0 in
        let until = r.1 in
        and_both (le-leb t _ (omega arith)) (lt-ltb start _ (omega arith)))

    use_joined : UsesOf J t L uses → UsesOf J t (x ∷ L) r
    use_joined u =
        record {
          before = λ m e. share_joined m _ _ _ (has_share_before m e) before (u.before m e);
          now = share_joined t _ _ _ has_share_now now u.now;
          spent = λ store few inside.
              spent.each store few ∙ ap₂ ◌+◌ (described.stores store inside) (u.spent store few inside);
        }

  pub joins_uses : JoinsUses numbers handovers t i start uses r
  joins_uses =
      record { more = joined_small; joins = λ J sets described waits L. use_joined J sets described waits L }

-- ---- the tests of pools and stores

module _ (J : Job) (sets numbers : List ℕ) (frame : Frame) (described : Describes J sets numbers frame) (L : List Step)
    (i : ℕ) (known : i < frame.actions) where
  pub exceeds_as_pools : frame.pools ≤ 4 → (t : ℕ) (sums : List ℕ) → HoldsUse J t L sums
      → exceeds numbers (i * 9 + 1) sums frame.available frame.pools ≡ exceeds_pools J L i t
  exceeds_as_pools few t sums holds =
      let count = described.pools in
      ap (λ (n : ℕ). exceeds numbers (i * 9 + 1) sums frame.available n) (sym count)
      ∙ below_same (length J.pools) _ _
      (λ pool inside.
      ap₂ ltb (described.available pool (omega arith))
      (ap₂ ◌+◌ (holds pool (omega arith) inside) ((described.each i known).pools pool inside)))

  pub exceeds_as_stores : frame.stores ≤ 4 → (t : ℕ) (uses : Uses) → UsesOf J t L uses
      → exceeds numbers (i * 9 + 5) uses.spent frame.stocks frame.stores ≡ exceeds_stores J L i
  exceeds_as_stores few t uses holds =
      let count = described.stores in
      ap (λ (n : ℕ). exceeds numbers (i * 9 + 5) uses.spent frame.stocks n) (sym count)
      ∙ below_same (length J.stores) _ _
      (λ store inside.
      ap₂ ltb (described.stocks store (omega arith))
      (ap₂ ◌+◌ (holds.spent store (omega arith) inside) ((described.each i known).stores store inside)))
