-- Laws of a table of refusals: the first row that holds is the answer.
-- Assumes nothing.
use mathlib.Core.Path.{◌≡◌, refl}
use mathlib.Core.Bool.{Bool, true, false}
use mathlib.Core.List.{List, [], ◌∷◌, ◌++◌}
use Rattle.job.specs.declared.refusal.Refusal.{Refusal}
use Rattle.std.specs.Prelude.{Option, Some, None, Result, Ok, Err}
use Rattle.std.specs.Option.{ok_or}
use Rattle.std.specs.Result.{result_ok}
use Rattle.job.specs.Refusal.{pass}
use Rattle.job.specs.Refusal.{Row, ◌when◌, first}

pub first_here : (why : Refusal) (test : Bool) (rows : List Row) → test ≡ true → first (why when test ∷ rows)
    ≡ Err why
unfolding first
first_here why test rows h = rw h

pub first_next : (why : Refusal) (test : Bool) (rows : List Row) → test ≡ false → first (why when test ∷ rows)
    ≡ first rows
unfolding first
first_next why test rows h = rw h

-- a table that passes has every row false
pub first_pass : (why : Refusal) (test : Bool) (rows : List Row) → first (why when test ∷ rows) ≡ pass
    → (test ≡ false) × (first rows ≡ pass)
unfolding first
first_pass why true rows h = (cc, cc)
first_pass why false rows h = (refl, h)

-- one table before another
pub first_append_pass : (rows more : List Row) → first rows ≡ pass → first (rows ++ more) ≡ first more
unfolding first
first_append_pass [] more h = refl
first_append_pass (why when true ∷ rows) more h = cc
first_append_pass (why when false ∷ rows) more h = first_append_pass rows more h

pub first_append_refused : (rows more : List Row) (why : Refusal) → first rows ≡ Err why
    → first (rows ++ more) ≡ Err why
unfolding first
first_append_refused [] more why h = cc
first_append_refused (w when true ∷ rows) more why h = h
first_append_refused (w when false ∷ rows) more why h = first_append_refused rows more why h

pub pass_of_append : (rows more : List Row) → first (rows ++ more) ≡ pass → (first rows ≡ pass) × (first more ≡ pass)
unfolding first
pass_of_append [] more h = (refl, h)
pass_of_append (why when true ∷ rows) more h = (h, cc)
pass_of_append (why when false ∷ rows) more h = pass_of_append rows more h

-- a row that does not hold changes nothing at the end of a table
pub first_append_row : (rows : List Row) (why : Refusal) (test : Bool) → test ≡ false
    → first (rows ++ (why when test ∷ [])) ≡ first rows
unfolding first
first_append_row [] why true h = cc
first_append_row [] why false h = refl
first_append_row (w when true ∷ rows) why test h = refl
first_append_row (w when false ∷ rows) why test h = first_append_row rows why test h

pub first_none : first [] ≡ pass
unfolding first
first_none = refl

-- what stands behind an answer whose refusal is left out
pub some_is_answered : {A : Type 0} (r : Result A Refusal) (value : A) → result_ok r ≡ Some value → r ≡ Ok value
some_is_answered (Ok x) value h = cc
some_is_answered (Err why) value h = cc

pub none_is_refused : {A : Type 0} (r : Result A Refusal) → result_ok r ≡ None → (why : Refusal) × (r ≡ Err why)
none_is_refused (Ok x) h = cc
none_is_refused (Err why) h = (why, refl)

-- what stands behind an answer that a refusal is put in place of
pub value_given : {A : Type 0} (given : Option A) (none : Refusal) (value : A) → ok_or given none ≡ Ok value → given ≡ Some value
value_given (Some x) none value h = cc
value_given None none value h = cc

pub no_value_given : {A : Type 0} (given : Option A) (none why : Refusal) → ok_or given none ≡ Err why
    → (given ≡ None) × (none ≡ why)
no_value_given (Some x) none why h = (cc, cc)
no_value_given None none why h = (refl, cc)
