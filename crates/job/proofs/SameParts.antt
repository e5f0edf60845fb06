-- Two counts, two actions and two jobs are the same exactly if all their parts are.
-- Assumes nothing.
use Prim.Native.Nat.{ℕ}
use mathlib.Core.Path.{◌≡◌, ap, ap₂, sym, ◌∙◌}
use mathlib.Core.Bool.{Bool, ◌&&◌}
use mathlib.Core.List.{List}
use lib.Dec.{eqb}
use denote.Enum.Bare.{sameb, same_true, true_same}
use Rattle.lists.specs.Lists.{firsts}
use Rattle.lists.specs.Answer.{Decides}
use Rattle.lists.proofs.Answers.{decides_iff}
use Rattle.job.specs.contracts.Form as form
use Rattle.job.specs.contracts.StoreRule as rule
use Rattle.job.specs.declared.Action as act
use Rattle.job.specs.declared.Counts.{Counts}
use Rattle.job.specs.declared.Form.{Form}
use Rattle.job.specs.declared.StoreRule.{StoreRule}
use Rattle.job.specs.declared.Job as held
use Rattle.job.specs.Job.{Job, handover_count, shortest_count, reserve_in, action_in, job_in}
use Rattle.job.proofs.Answers.{equal, ◌and◌, ◌also◌}
use Rattle.job.proofs.Agree.{same_count_lem}

pub same_counts : (n m : Counts)
    → Decides (eqb n.pools m.pools && (eqb n.stores m.stores && eqb n.actions m.actions)) (n ≡ m)
same_counts n m =
    decides_iff
    (equal n.pools m.pools and (equal n.stores m.stores and equal n.actions m.actions))
    (λ h. λ i. record { pools = h.0 i; stores = h.1.0 i; actions = h.1.1 i })
    (λ e. (λ i. (e i).pools) also ((λ i. (e i).stores) also (λ i. (e i).actions)))

pub same_form : (a b : Form) → Decides (sameb form.the_type a b) (a ≡ b)
same_form a b = record { sound = same_true form.the_type tt a b; complete = true_same form.the_type a b }

pub same_rule : (a b : StoreRule) → Decides (sameb rule.the_type a b) (a ≡ b)
same_rule a b = record { sound = same_true rule.the_type tt a b; complete = true_same rule.the_type a b }

-- n amounts of two arrays are the same
abbrev SameAmounts : ℕ → List ℕ → List ℕ → Type 0
SameAmounts n xs ys = firsts n 0 xs ≡ firsts n 0 ys

module _ (n : Counts) (a b : act.Action) {p s : Bool} where
  pub same_action : Decides p (SameAmounts n.pools a.pools b.pools)
      → Decides s (SameAmounts n.stores a.stores b.stores)
      → Decides
      (eqb a.duration b.duration && eqb a.needs b.needs && eqb a.adds b.adds
      && eqb a.deletes b.deletes
      && p
      && s)
      (action_in n a ≡ action_in n b)
  same_action pools stores =
      decides_iff
      (equal a.duration b.duration and equal a.needs b.needs and equal a.adds b.adds
      and equal a.deletes b.deletes
      and pools
      and stores)
      (λ h. cc)
      (λ e.
      (λ i. (e i).duration) also (λ i. (e i).needs) also (λ i. (e i).adds) also (λ i. (e i).deletes)
      also (λ i. (e i).pools)
      also (λ i. (e i).stores))

-- the job in j if its form were f, its rule r and its counts n
abbrev counted : Form → StoreRule → Counts → held.Job → Job
counted f r n j =
    job_in
    record {
      facts = j.facts;
      deadline = j.deadline;
      start = j.start;
      goal = j.goal;
      form = f;
      rule = r;
      reserve = j.reserve;
      counts = n;
      pools = j.pools;
      handovers = j.handovers;
      stores = j.stores;
      shortest = j.shortest;
      actions = j.actions;
    }

-- each count is the length of a list
counts_of_same : (a b : held.Job) → job_in a ≡ job_in b → a.counts ≡ b.counts
counts_of_same a b e =
    let p = same_count_lem _ _ _ _ (λ i. (e i).pools) in
    let s = same_count_lem _ _ _ _ (λ i. (e i).stores) in
    let x = same_count_lem _ _ _ _ (λ i. (e i).actions) in
    λ i. record { pools = p i; stores = s i; actions = x i }

module _ (a b : held.Job) {f u c p w s l x : Bool} where
  pub same_job : Decides f (a.form ≡ b.form)
      → Decides u (a.rule ≡ b.rule)
      → Decides c (a.counts ≡ b.counts)
      → Decides p (SameAmounts a.counts.pools a.pools b.pools)
      → Decides w (SameAmounts (handover_count a.form a.counts.pools) a.handovers b.handovers)
      → Decides s (SameAmounts a.counts.stores a.stores b.stores)
      → Decides l (SameAmounts (shortest_count a.form a.counts.actions) a.shortest b.shortest)
      → Decides x
      ((counted a.form a.rule a.counts a).actions ≡ (counted a.form a.rule a.counts b).actions)
      → Decides
      (eqb a.facts b.facts && eqb a.deadline b.deadline && eqb a.start b.start
      && eqb a.goal b.goal
      && f
      && u
      && eqb (job_in a).reserve (job_in b).reserve
      && c
      && p
      && w
      && s
      && l
      && x)
      (job_in a ≡ job_in b)
  same_job form rule counts pools handovers stores shortest actions =
      decides_iff
      (equal a.facts b.facts and equal a.deadline b.deadline and equal a.start b.start
      and equal a.goal b.goal
      and form
      and rule
      and equal (job_in a).reserve (job_in b).reserve
      and counts
      and pools
      and handovers
      and stores
      and shortest
      and actions)
      (λ h.
      let f : a.form ≡ b.form = h.0.0.0.0.0.0.0.0.1 in
      let u : a.rule ≡ b.rule = h.0.0.0.0.0.0.0.1 in
      let n : a.counts ≡ b.counts = h.0.0.0.0.0.1 in
      let same : b.rule ≡ a.rule = sym u in
      let reserve : reserve_in a.rule a.reserve ≡ reserve_in a.rule b.reserve
      = h.0.0.0.0.0.0.1 ∙ ap (λ (r : StoreRule). reserve_in r b.reserve) same in
      let e : counted a.form a.rule a.counts a ≡ counted a.form a.rule a.counts b = cc in
      e
      ∙ ap (λ (g : Form). counted g a.rule a.counts b) f
      ∙ ap₂ (λ (r : StoreRule) (m : Counts). counted b.form r m b) u n)
      (λ e.
      let g : a.form ≡ b.form = λ i. (e i).form in
      let u : a.rule ≡ b.rule = λ i. (e i).rule in
      let n = counts_of_same a b e in
      let j : counted a.form a.rule a.counts a ≡ counted a.form a.rule a.counts b =
      e
      ∙ ap₂ (λ (r : StoreRule) (m : Counts). counted b.form r m b) (sym u) (sym n)
      ∙ ap (λ (h : Form). counted h a.rule a.counts b) (sym g) in
      (λ i. (e i).facts) also (λ i. (e i).deadline) also (λ i. (e i).start) also (λ i. (e i).goal)
      also g
      also u
      also (λ i. (e i).reserve)
      also n
      also (λ i. (j i).pools)
      also (λ i. (j i).handovers)
      also (λ i. (j i).stores)
      also (λ i. (j i).shortest)
      also (λ i. (j i).actions))
