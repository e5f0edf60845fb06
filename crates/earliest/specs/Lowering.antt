-- Lowering the entries of a table of earliest times: what each step of it keeps, and what is settled where none fell.
-- Assumes nothing.
use Rattle.std.specs.Prelude.{ℕ, ◌+◌, ◌*◌, ◌≤◌, ◌<◌, min, max, ◌≡◌, Bool, true, false, List, get_or}
use Rattle.facts.specs.FactSet.{has}
use Rattle.job.specs.Job.{Job}
use Rattle.pairs.specs.Pairs.{entry_of}
use Rattle.times.specs.Numbers.{none, table_in}
use Rattle.times.specs.Choices.{By, Reached}
use Rattle.times.specs.Entries.{sum, Kept, finite_in}

-- the entry of two facts, in either order
abbrev pub entry_at : List ℕ → ℕ → ℕ → ℕ
entry_at xs p q = get_or xs (entry_of (min p q) (max p q)) none

-- a table of the job's earliest times on the way down to them
pub record Lowerable (J : Job) (xs : List ℕ) : Type 0 where
  pub few : J.facts ≤ 64
  pub kept : Kept J xs

-- ys is xs with some entries lowered, or with none: then D holds of xs
pub record Lowering (J : Job) (D : List ℕ → Type 0) (xs ys : List ℕ) (changed : Bool) : Type 0 where
  pub kept : Kept J ys
  pub falls : (p q t : ℕ) → p ≤ q → q < J.facts → By (table_in xs p q) t → By (table_in ys p q) t
  pub finite : finite_in xs ≤ finite_in ys
  pub less : changed ≡ true → sum ys < sum xs
  pub settled : changed ≡ false → (ys ≡ xs) × D xs

-- ---- the entry of two facts

abbrev pub EntryAtMost : ℕ → ℕ → ℕ → List ℕ → Type 0
EntryAtMost p q t xs = entry_at xs p q ≤ t

-- a choice brings p and q about by minute t, a time within the bound on finite entries
abbrev pub Offered : Job → List ℕ → ℕ → ℕ → ℕ → Type 0
Offered J xs t p q = t < none → Reached J (table_in xs) p q t × (t ≤ 255 + 255 * finite_in xs)

abbrev pub LowersEntry : List ℕ → List ℕ → ℕ → ℕ → ℕ → Bool → Type 0
LowersEntry xs ys p q t changed =
    (J : Job) → Lowerable J xs → p < J.facts → q < J.facts → Offered J xs t p q
    → Lowering J (EntryAtMost p q t) xs ys changed

-- ---- the entries of a fact with the facts of a set

abbrev pub RowAtMost : ℕ → ℕ → ℕ → ℕ → List ℕ → Type 0
RowAtMost p set t n xs = (q : ℕ) → q < n → has set q ≡ true → EntryAtMost p q t xs

abbrev pub RowOffered : Job → List ℕ → ℕ → ℕ → ℕ → Type 0
RowOffered J xs t p set = (q : ℕ) → q < J.facts → has set q ≡ true → Offered J xs t p q

abbrev pub LowersRow : ℕ → List ℕ → List ℕ → ℕ → ℕ → ℕ → Bool → Type 0
LowersRow facts xs ys p set t changed =
    (J : Job) → Lowerable J xs → J.facts ≡ facts → p < facts → RowOffered J xs t p set
    → Lowering J (RowAtMost p set t facts) xs ys changed

-- ---- the entries of the facts of one set with those of another

abbrev pub AllAtMost : ℕ → ℕ → ℕ → ℕ → ℕ → List ℕ → Type 0
AllAtMost facts set other t n xs = (p : ℕ) → p < n → has set p ≡ true → RowAtMost p other t facts xs

abbrev pub AllOffered : Job → List ℕ → ℕ → ℕ → ℕ → Type 0
AllOffered J xs t set other = (p : ℕ) → p < J.facts → has set p ≡ true → RowOffered J xs t p other

abbrev pub LowersAll : ℕ → List ℕ → List ℕ → ℕ → ℕ → ℕ → Bool → Type 0
LowersAll facts xs ys set other t changed =
    (J : Job) → Lowerable J xs → J.facts ≡ facts → AllOffered J xs t set other
    → Lowering J (AllAtMost facts set other t facts) xs ys changed
