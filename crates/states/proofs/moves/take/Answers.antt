-- `take` meets its contract, field by field.
use Prim.Native.Nat.{ℕ}
use mathlib.Core.Path.{◌≡◌, refl, ap, ◌∙◌}
use mathlib.Core.Bool.{Bool, ◌||◌}
use mathlib.Core.List.{List}
use Rattle.facts.specs.FactSet.{has}
use Rattle.tables.specs.Tables.{pushed}
use Rattle.states.specs.Minutes.{JoinsStep}
use Rattle.states.specs.Amounts.{JoinsUses}
use Rattle.states.specs.declared.minute.Minute.{Minute}
use Rattle.states.specs.declared.amounts.Uses.{Uses}
use Rattle.states.proofs.moves.take.Goals as goal

-- what is joined at the same minute and start by other words
joins-as : (sets numbers : List ℕ) (t t' i start start' : ℕ) (m r : Minute) → t ≡ t' → start ≡ start'
    → JoinsStep sets numbers t i start m r → JoinsStep sets numbers t' i start' m r
joins-as sets numbers t t' i start start' m r e f joins = rw (← e, ← f) joins

joins-uses-as : (numbers handovers : List ℕ) (t t' i start start' : ℕ) (uses r : Uses) → t ≡ t' → start ≡ start'
    → JoinsUses numbers handovers t i start uses r → JoinsUses numbers handovers t' i start' uses r
joins-uses-as numbers handovers t t' i start start' uses r e f joins = rw (← e, ← f) joins

pub returns : goal.returns
returns c =
    let at = c.args in
    let start = c.start_of-start.ensures in
    let now = c.wide-minute.ensures.0 in
    record {
      steps = c.push.ensures ∙ ap (pushed at.st.steps at.i) start;
      minute = refl;
      wanted = refl;
      at = joins-as _ _ _ _ _ _ _ _ _ now start c.joined.ensures;
      uses = joins-uses-as _ _ _ _ _ _ _ _ _ now start c.joined-2.ensures;
      twice = λ n. c.union.ensures.1 n ∙ ap (λ (b : Bool). has at.st.twice n || b) (c.common-again.ensures n);
      since = refl;
    }
