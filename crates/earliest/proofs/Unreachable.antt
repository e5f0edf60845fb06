-- What is unreachable lowers nothing: no entry is later than the number for unreachable.
-- Assumes nothing.
use Prim.Native.Nat.{ℕ, ◌≤◌, ◌<◌, min, max}
use mathlib.Core.Path.{◌≡◌}
use mathlib.Core.Bool.{false}
use mathlib.Core.Logic.{⊎_elim}
use mathlib.Core.List.{List}
use native.Mathlib.Omega.{arith}
use borrow.Author.Tests.{lt-ltb}
use Rattle.facts.specs.FactSet.{union, single}
use Rattle.facts.proofs.SetLaws.{in_union_left}
use Rattle.job.specs.declared.Action as value
use Rattle.job.specs.Job.{Action, Job}
use Rattle.times.specs.Earliest.{action_of}
use Rattle.times.specs.Numbers.{none}
use Rattle.earliest.specs.Numbers.{set_number, SameTime}
use Rattle.earliest.specs.Lowering.{Lowerable, EntryAtMost, RowAtMost, AllAtMost, LowersRow, LowersAll}
use Rattle.earliest.specs.Sweep.{end_number, PairSettled, ActionSettled}
use Rattle.earliest.specs.Sweep.{LowersPair}
use Rattle.earliest.proofs.SetTimes.{number_of_part}
use Rattle.earliest.proofs.LoweringLaws.{lowering_none, entry_at_most_sentinel}

module _ (J : Job) (xs : List ℕ) (able : Lowerable J xs) where
  at_most_unreachable : (t p q : ℕ) → none ≤ t → p < J.facts → q < J.facts → EntryAtMost p q t xs
  at_most_unreachable t p q l a b =
      let most = entry_at_most_sentinel J xs able (min p q) (max p q) (omega arith) (omega arith) in omega arith

  -- ---- choices that wait for facts which are unreachable together
  abbrev Late : ℕ → Type 0
  Late set = 530400 < set_number xs set J.facts

  late_with_more : (set more : ℕ) → Late set → Late (union set more)
  late_with_more set more late =
      let l = number_of_part J xs able set (union set more) (in_union_left set more) in omega arith

  end_of_late : (a : Action) (set : ℕ) → Late set → end_number J xs a set ≡ none
  end_of_late a set late = rw (lt-ltb 530400 (set_number xs set J.facts) late)

  pub pair_unreachable : (i j : ℕ) → Late (union (action_of J i).needs (action_of J j).needs) → PairSettled J i j xs
  pair_unreachable i j late p a hp q b hq =
      let e = end_of_late (action_of J j) (union (action_of J i).needs (action_of J j).needs) late in
      at_most_unreachable _ p q (omega arith) a b

  pub action_unreachable : (i : ℕ) → (action_of J i).duration ≤ 255 → Late (action_of J i).needs → ActionSettled J i xs
  action_unreachable i short late =
      let needs : ℕ = (action_of J i).needs in
      record {
        both = (
          short,
          λ p a hp q b hq.
              let e = end_of_late (action_of J i) needs late in at_most_unreachable _ p q (omega arith) a b,
        );
        one = λ q b untouched p a hp.
            let e = end_of_late (action_of J i) (union needs (single q)) (late_with_more needs (single q) late) in
            at_most_unreachable _ q p (omega arith) b a;
        each = λ j known joined. pair_unreachable i j (late_with_more needs (action_of J j).needs late);
      }

-- ---- what the code finds to be unreachable
pub row_unreachable : (facts p set t : ℕ) (xs : List ℕ) → t ≡ none → LowersRow facts xs xs p set t false
row_unreachable facts p set t xs e J able same here offers =
    lowering_none J (RowAtMost p set t facts) xs able.kept
    (λ q b h. at_most_unreachable J xs able t p q (omega arith) (omega arith) (omega arith))

pub all_unreachable : (facts set other t : ℕ) (xs : List ℕ) → t ≡ none → LowersAll facts xs xs set other t false
all_unreachable facts set other t xs e J able same offers =
    lowering_none J (AllAtMost facts set other t facts) xs able.kept
    (λ p a hp q b hq. at_most_unreachable J xs able t p q (omega arith) (omega arith) (omega arith))

pub pair_late : (facts : ℕ) (xs : List ℕ) (a b : value.Action) (ready : ℕ)
    → SameTime ready (set_number xs (union a.needs b.needs) facts) → 530400 < ready
    → LowersPair facts a b xs xs false
pair_late facts xs a b ready same late J i j n able is_a is_b joined =
    let number : 530400 < set_number xs (union a.needs b.needs) facts =
    ⊎_elim (λ e. omega arith) (λ both. both.1) same in
    lowering_none J (PairSettled J i j) xs able.kept
    (pair_unreachable J xs able i j (rw (is_a.same, is_b.same, is_a.same_facts) number))
