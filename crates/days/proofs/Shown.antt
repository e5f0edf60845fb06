-- Every day of the lists is as documents 01 and 02 say: computed from the definitions.
-- Assumes nothing.
use Prim.Native.Nat.{ℕ, zero, suc, ◌≤◌}
use mathlib.Core.Path.{◌≡◌, refl, sym, subst}
use mathlib.Core.Logic.{⊎_elim}
use mathlib.Core.List.{List, [], ◌∷◌}
use native.Mathlib.Nat.{eq-or-lt_of_le}
use native.Mathlib.Omega.{arith}
use Rattle.lists.specs.Lists.{tabulate, any, Each}
use Rattle.facts.specs.FactSet.{has, union, difference, subset, meets, foreign}
use Rattle.encoding.specs.Bytes.{from_bytes, to_bytes}
use Rattle.job.specs.Resources.{handover, store_amount, store_cap}
use Rattle.job.specs.Lengths.{shortest_of}
use Rattle.job.specs.Job.{Job}
use Rattle.job.specs.Refusal.{first}
use Rattle.job.specs.declared.Form.{Form}
use Rattle.job.specs.declared.Form.TheVariants.{Four, Five, Six}
use Rattle.job.specs.declared.StoreRule.{StoreRule}
use Rattle.job.specs.declared.StoreRule.TheVariants.{PerStep, PerHour}
use Rattle.job.specs.Valid.{action_rows, limit_rows, uses_beyond, job_rows}
use Rattle.timeline.specs.Step.{steps_in}
use Rattle.timeline.specs.Timeline.{free, peak}
use Rattle.timeline.specs.Accepted.{step_rows, plan_rows}
use Rattle.times.specs.Earliest.{Table, right_side, Solves}
use Rattle.times.specs.Numbers.{table_in}
use Rattle.makespan.specs.Makespan.{makespan_from}
use Rattle.checker.specs.Check.{check_rows, check_plan}
use Rattle.days.specs.Days.{job4, job5, job6, quoted, Holds, days, quoted_jobs, quotes}

infixr 20 ◌and◌
-- what holds of each number up to n
abbrev UpTo : (ℕ → Type 0) → ℕ → Type 0
UpTo P zero = P zero
UpTo P (suc n) = UpTo P n × P (suc n)

each_up_to : (P : ℕ → Type 0) (n : ℕ) → UpTo P n → (k : ℕ) → k ≤ n → P k
each_up_to P zero all k l = let z : 0 ≡ k = omega arith in subst P z all
each_up_to P (suc n) all k l =
    ⊎_elim (λ e. subst P (sym e) all.1) (λ e. each_up_to P n all.0 k (omega arith)) (eq-or-lt_of_le l)

-- the equations of the facts up to n, each with those before it
abbrev Equations : Job → Table → ℕ → Type 0
Equations J T = UpTo (λ q. UpTo (λ p. T p q ≡ right_side J T p q) q)

solves : (J : Job) (T : Table) (n : ℕ) → J.facts ≡ suc n → Equations J T n → Solves J T
solves J T n facts all p q l m =
    each_up_to (λ p. T p q ≡ right_side J T p q) q
    (each_up_to (λ q. UpTo (λ p. T p q ≡ right_side J T p q) q) n all q (omega arith)) p l

-- the table of a job with two facts: the times of fact 0, of both, and of fact 1
abbrev two : ℕ → ℕ → ℕ → Table
two one both other = table_in (one ∷ both ∷ other ∷ [])

-- the table of a quoted day, in the same order: fact 0, then 1, 2 and 3, each with those before it first
abbrev quoted_table : Table
quoted_table = table_in (0 ∷ 10 ∷ 10 ∷ 5 ∷ 15 ∷ 5 ∷ 85 ∷ 85 ∷ 85 ∷ 85 ∷ [])

-- one day and the days after it
◌and◌ : {A B : Type 0} → A → B → A × B
x and y = (x, y)

pub days_hold : Each Holds days
unfolding tabulate any has union difference subset meets foreign from_bytes to_bytes first action_rows limit_rows uses_beyond job_rows steps_in free
    handover store_amount store_cap shortest_of peak step_rows plan_rows check_rows check_plan right_side makespan_from
days_hold =
    -- 1, 2, 3
    refl and refl and refl and refl
    -- 4
    and refl and (two 2 4 2, solves (job4 4) (two 2 4 2) 1 refl (refl, (refl, refl)), refl) and refl
    -- 5
    and refl and refl and (two 2 2 2, solves (job5 4) (two 2 2 2) 1 refl (refl, (refl, refl)), refl)
    -- 6
    and refl and (two 0 3 2, solves job6 (two 0 3 2) 1 refl (refl, (refl, refl)), refl)
    -- 7
    and refl and refl and refl and refl
    -- 8, 9, 10
    and refl and refl and refl and refl and refl and refl and refl and tt

-- in whichever form, under whichever rule: no equation has a part that these tell apart
quotes_hold : (form : Form) (rule : StoreRule) (reserve : ℕ) (handovers shortest : List ℕ)
    → Each Holds (quotes (quoted form rule reserve handovers shortest))
unfolding tabulate any has union meets right_side
quotes_hold form rule reserve handovers shortest =
    let J = quoted form rule reserve handovers shortest in
    let solved : Solves J quoted_table =
    solves J quoted_table 3 refl
    (((refl, (refl, refl)), ((refl, refl), refl)), (((refl, refl), refl), refl)) in
    (quoted_table, solved, refl) and (quoted_table, solved, refl) and (quoted_table, solved, refl) and
    (quoted_table, solved, refl) and tt

pub quoted_days_hold : Each (λ J. Each Holds (quotes J)) quoted_jobs
quoted_days_hold =
    quotes_hold Four PerStep 0 [] []
    and quotes_hold Five PerStep 0 (2 ∷ []) []
    and quotes_hold Six PerStep 0 (2 ∷ []) (9 ∷ 5 ∷ 60 ∷ [])
    and quotes_hold Four PerHour 20 [] []
    and quotes_hold Five PerHour 20 (2 ∷ []) []
    and quotes_hold Six PerHour 20 (2 ∷ []) (9 ∷ 5 ∷ 60 ∷ [])
    and tt
