-- Checks in a chain: each answers for one row of the table, and the first that fails is the answer.
-- Assumes nothing.
use mathlib.Core.Path.{◌≡◌, refl}
use mathlib.Core.Bool.{Bool, true, false}
use mathlib.Core.List.{List, [], ◌∷◌}
use Rattle.job.specs.declared.refusal.Refusal.{Refusal}
use Rattle.std.specs.Prelude.{Ok, Err}
use Rattle.job.specs.Refusal.{pass}
use Rattle.job.specs.Refusal.{Verdict, Row, ◌when◌, first, answer_by}

pub check_passes : (why : Refusal) (test : Bool) (rows : List Row) → first (why when test ∷ []) ≡ pass
    → first (why when test ∷ rows) ≡ first rows
unfolding first
check_passes why true rows h = cc
check_passes why false rows h = refl

pub check_fails : (why : Refusal) (test : Bool) (rows : List Row) (w : Refusal) → first (why when test ∷ []) ≡ Err w
    → first (why when test ∷ rows) ≡ Err w
unfolding first
check_fails why true rows w h = h
check_fails why false rows w h = cc

pub passed_test : (why : Refusal) (test : Bool) → first (why when test ∷ []) ≡ pass → test ≡ false
unfolding first
passed_test why true h = cc
passed_test why false h = refl

-- what an answer says of the tests that it was made by
pub refused_by : {A : Type 0} (v : Verdict) (value : A) (why : Refusal) → answer_by v value ≡ Err why → v ≡ Err why
refused_by (Ok _) value why h = cc
refused_by (Err w) value why h = cc

pub passed_by : {A : Type 0} (v : Verdict) (value told : A) → answer_by v value ≡ Ok told → v ≡ pass
passed_by (Ok _) value told h = refl
passed_by (Err w) value told h = cc

pub value_by : {A : Type 0} (v : Verdict) (value told : A) → answer_by v value ≡ Ok told → value ≡ told
value_by (Ok _) value told h = cc
value_by (Err w) value told h = cc
