-- The answer of the call, test by test.
-- Assumes nothing.
use Prim.Native.Nat.{ℕ}
use mathlib.Core.Path.{◌≡◌, refl, sym, ap, ◌∙◌}
use mathlib.Core.Bool.{true, false, cond}
use mathlib.Core.List.{List, [], ◌∷◌}
use lib.Dec.{ltb}
use Rattle.facts.specs.FactSet.{foreign}
use Rattle.job.specs.Job.{Job}
use Rattle.job.specs.Refusal.{Row, first, ◌when◌, returned}
use Rattle.job.specs.Valid.{job_rows}
use Rattle.job.specs.declared.refusal.Refusal.{Refusal}
use Rattle.job.specs.declared.refusal.Refusal.TheVariants.{ForeignAskedFact}
use Rattle.job.specs.Refusal.{Verdict}
use Rattle.std.specs.Prelude.{Ok, Err}
use Rattle.job.specs.Refusal.{pass}
use Rattle.job.proofs.Passed.{passed}
use Rattle.job.proofs.Table.{first_here, first_next, first_none, first_append_pass, first_append_refused}
use Rattle.times.specs.Time.{Time, at, unreachable}
use Rattle.times.specs.Earliest.{time_of}
use Rattle.times.specs.Numbers.{table_in}
use Rattle.times.proofs.Monotone.{durations_of_passed}
use Rattle.times.proofs.Unique.{one_solution_of_sets}
use Rattle.earliest.specs.Answer.{EarliestTime}
use Rattle.std.specs.Prelude.{Option, Some, None}
use Rattle.earliest.specs.Answer.{earliest_rows, answer_of, time_reply, AnswersBy, Answers}
use Rattle.earliest.specs.Numbers.{set_number, SameTime}
use Rattle.earliest.specs.Sweep.{Filled}
use Rattle.earliest.proofs.SetTimes.{time_of_set, same_time}

reply_of_time : (t : Time) → time_reply (Ok (answer_of t)) ≡ returned t
reply_of_time (at x) = refl
reply_of_time unreachable = refl

module _ (J : Job) (set : ℕ) where
  abbrev last : List Row
  last = ForeignAskedFact when foreign J.facts set ∷ []

  answers_by : (v : Verdict) → first (earliest_rows J set) ≡ v → (r : EarliestTime) → AnswersBy v J set r
      → Answers J set r
  answers_by v e r h = rw e h

  pub answers_refused_job : (why : Refusal) → first (job_rows J) ≡ Err why → Answers J set (Err why)
  answers_refused_job why e =
      answers_by (Err why) (first_append_refused (job_rows J) last why e) (Err why) (refl, refl)

  pub answers_foreign : first (job_rows J) ≡ pass → foreign J.facts set ≡ true
      → Answers J set (Err ForeignAskedFact)
  answers_foreign e f =
      answers_by (Err ForeignAskedFact)
      (first_append_pass (job_rows J) last e ∙ first_here ForeignAskedFact (foreign J.facts set) [] f)
      (Err ForeignAskedFact) (refl, refl)

  pub answers_time : first (job_rows J) ≡ pass → foreign J.facts set ≡ false → (xs : List ℕ) → Filled J xs
      → (n : ℕ) → SameTime n (set_number xs set J.facts) → (r : EarliestTime)
      → r ≡ Ok (answer_of (cond (ltb 530400 n) unreachable (at n))) → Answers J set r
  answers_time e f xs filled n g r h =
      let time : time_of J (table_in xs) set ≡ cond (ltb 530400 n) unreachable (at n) =
      time_of_set J xs filled.able set ∙ sym (same_time n (set_number xs set J.facts) g) in
      let positive = durations_of_passed J (passed J e) in
      let passes = first_append_pass (job_rows J) last e
      ∙ first_next ForeignAskedFact (foreign J.facts set) [] f
      ∙ first_none in
      answers_by pass passes r (
        (table_in xs, filled.solves),
        λ T solves.
            let told : r ≡ Ok (answer_of (time_of J T set)) =
            h ∙ ap (λ (t : Time). Ok (answer_of t)) (sym time ∙ one_solution_of_sets J positive (table_in xs) T filled.solves solves set) in
            (told, rw told (reply_of_time (time_of J T set))),
      )
