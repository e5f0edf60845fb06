-- A plan with its facts and actions renamed keeps the rules.
-- Assumes nothing.
use Prim.Native.Nat.{ℕ, ◌<◌, ◌≤◌}
use mathlib.Core.Path.{◌≡◌, refl, sym, ap, ◌∙◌}
use mathlib.Core.Bool.{true, false}
use mathlib.Core.List.{List, [], ◌∷◌, map}
use native.Mathlib.Omega.{arith}
use lib.ListN.{length, get_or}
use Rattle.lists.specs.Lists.{any}
use Rattle.lists.proofs.Bools.{or_left, or_right}
use Rattle.facts.specs.FactSet.{has, Subset}
use Rattle.job.specs.Job.{Job}
use Rattle.timeline.specs.Step.{Step, any_pair}
use Rattle.timeline.specs.Timeline.{held, in_use, used_up, clash, overlap}
use Rattle.job.specs.Resources.{store_cap}
use Rattle.timeline.specs.Accepted.{clashing}
use Rattle.timeline.proofs.Tests.{or_neither, and_other_false}
use Rattle.timeline.proofs.Places.{each_map, each_rest, any_of_none, none_of_any}
use Rattle.timeline.specs.Places.{here, there, EachStep}
use Rattle.timeline.proofs.Clashes.{Compatible, compatible_unless_clash, compatible_no_clash, not_clashing}
use Rattle.timeline.proofs.Clashes.{overlap_when}
use Rattle.timeline.specs.Keeps.{Keeps}
use Rattle.pooling.proofs.ByFact.{held_by_fact, same_at_stop}

-- y is x with its facts renamed: fact n of y is fact (of n) of x
pub record Renames (of : ℕ → ℕ) (x y : Step) : Type 0 where
  pub start : y.start ≡ x.start
  pub stop : y.stop ≡ x.stop
  pub needs : (n : ℕ) → has y.action.needs n ≡ has x.action.needs (of n)
  pub adds : (n : ℕ) → has y.action.adds n ≡ has x.action.adds (of n)
  pub deletes : (n : ℕ) → has y.action.deletes n ≡ has x.action.deletes (of n)

-- y runs when x does, and has no facts but those of x, renamed
pub record HasOnly (of : ℕ → ℕ) (x y : Step) : Type 0 where
  pub start : y.start ≡ x.start
  pub stop : y.stop ≡ x.stop
  pub needs : (n : ℕ) → has y.action.needs n ≡ true → has x.action.needs (of n) ≡ true
  pub adds : (n : ℕ) → has y.action.adds n ≡ true → has x.action.adds (of n) ≡ true
  pub deletes : (n : ℕ) → has y.action.deletes n ≡ true → has x.action.deletes (of n) ≡ true

only_renamed : (of : ℕ → ℕ) (x y : Step) → Renames of x y → HasOnly of x y
only_renamed of x y r =
    record {
      start = r.start;
      stop = r.stop;
      needs = λ n h. sym (r.needs n) ∙ h;
      adds = λ n h. sym (r.adds n) ∙ h;
      deletes = λ n h. sym (r.deletes n) ∙ h;
    }

module _ (of : ℕ → ℕ) (f : Step → Step) where
  -- ---- facts
  renamed_held : (S R : ℕ) → ((n : ℕ) → has R n ≡ has S (of n)) → (P : List Step)
      → EachStep (λ x. Renames of x (f x)) P → (t n : ℕ) → has (held R (map f P) t) n ≡ has (held S P t) (of n)
  renamed_held S R start P renames t n =
      held_by_fact R S (map f P) P n (of n) (start n)
      (λ m.
      same_at_stop (λ a. a.deletes) f m n (of n) P (λ x Q i. ((renames x Q i).stop, (renames x Q i).deletes n)))
      (λ m. same_at_stop (λ a. a.adds) f m n (of n) P (λ x Q i. ((renames x Q i).stop, (renames x Q i).adds n))) t

  -- ---- clashes
  renamed_compatible : (x y : Step) → HasOnly of x (f x) → HasOnly of y (f y)
      → ((f x).number ≡ (f y).number → x.number ≡ y.number) → Compatible x y → Compatible (f x) (f y)
  renamed_compatible x y r s numbers c =
      record {
        different = λ e. c.different (numbers e);
        spares = record {
          needs = λ n d k. c.spares.needs (of n) (r.deletes n d) (s.needs n k);
          adds = λ n d k. c.spares.adds (of n) (r.deletes n d) (s.adds n k);
        };
        spared = record {
          needs = λ n d k. c.spared.needs (of n) (s.deletes n d) (r.needs n k);
          adds = λ n d k. c.spared.adds (of n) (s.deletes n d) (r.adds n k);
        };
      }

  renamed_clashing : (x y : Step) → HasOnly of x (f x) → HasOnly of y (f y)
      → ((f x).number ≡ (f y).number → x.number ≡ y.number) → clashing x y ≡ false → clashing (f x) (f y) ≡ false
  renamed_clashing x y r s numbers h =
      not_clashing (f x) (f y)
      (λ a b.
      let p = r.start in
      let q = r.stop in
      let u = s.start in
      let v = s.stop in
      compatible_no_clash (f x) (f y)
      (renamed_compatible x y r s numbers
      (compatible_unless_clash x y
      (and_other_false (overlap x y) (clash x y) (overlap_when x y (omega arith) (omega arith)) h))))

  -- different actions keep different numbers
  abbrev pub Apart : List Step → Type 0
  Apart P = EachStep (λ x. EachStep (λ y. (f x).number ≡ (f y).number → x.number ≡ y.number) P) P

  pub renamed_no_clash : (P : List Step) → EachStep (λ x. HasOnly of x (f x)) P → Apart P
      → any_pair clashing P ≡ false → any_pair clashing (map f P) ≡ false
  renamed_no_clash [] r numbers h = refl
  renamed_no_clash (x ∷ P) r numbers h =
      or_neither
      (any_of_none (clashing (f x)) (map f P)
      (each_map (λ y. clashing (f x) y ≡ false) f P
      (λ y Q i.
      renamed_clashing x y (r x P here) (r y (x ∷ Q) (there i)) (numbers x P here y (x ∷ Q) (there i))
      (none_of_any (clashing x) P (or_left (any (clashing x) P) _ h) y Q i))))
      (renamed_no_clash P (each_rest (λ y. HasOnly of y (f y)) x P r)
      (λ y Q i z R j. numbers y (x ∷ Q) (there i) z (x ∷ R) (there j))
      (or_right (any (clashing x) P) _ h))

  -- ---- all rules
  pub renamed_keeps : (J W : Job) (T goal other : ℕ) (P : List Step) → Keeps J T goal P
      → EachStep (λ x. Renames of x (f x)) P → Apart P
      → ((n : ℕ) → has W.start n ≡ has J.start (of n)) → ((n : ℕ) → has other n ≡ true → has goal (of n) ≡ true)
      → ((pool t : ℕ) → pool < length W.pools → in_use W pool t (map f P) ≤ get_or W.pools pool 0)
      → ((store : ℕ) → store < length W.stores → used_up W store (map f P) ≤ store_cap W store)
      → Keeps W T other (map f P)
  renamed_keeps J W T goal other P keeps renames numbers start goals pools stores =
      record {
        lasting = each_map (λ x. x.start < x.stop) f P
            (λ x Q i.
            let r = renames x Q i in
            let a = r.start in
            let b = r.stop in
            let l = keeps.lasting x Q i in
            omega arith);
        in_time = each_map (λ x. x.stop ≤ T) f P
            (λ x Q i. let b = (renames x Q i).stop in let l = keeps.in_time x Q i in omega arith);
        no_clash = renamed_no_clash P (λ x Q i. only_renamed of x (f x) (renames x Q i)) numbers keeps.no_clash;
        pools = pools;
        stores = stores;
        needs_hold = each_map (λ x. Subset x.action.needs (held W.start (map f P) x.start)) f P
            (λ x Q i n h.
            let r = renames x Q i in
            renamed_held J.start W.start start P renames (f x).start n
            ∙ ap (λ (t : ℕ). has (held J.start P t) (of n)) r.start
            ∙ keeps.needs_hold x Q i (of n) (sym (r.needs n) ∙ h));
        goal_holds = λ n h.
            renamed_held J.start W.start start P renames T n ∙ keeps.goal_holds (of n) (goals n h);
      }
