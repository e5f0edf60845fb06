-- The bodies of a job, read back.
-- Assumes nothing.
use Prim.Native.Nat.{ℕ, ◌*◌, ◌/◌, ◌<◌, ◌≤◌}
use mathlib.Core.Path.{◌≡◌, refl, sym, ap, ◌∙◌}
use mathlib.Core.List.{List, [], ◌∷◌, ◌++◌, append-nil, append_assoc}
use native.Mathlib.Omega.{arith}
use lib.ListN.{length, get_or, length-append}
use Rattle.lists.specs.Lists.{tabulate, Each}
use Rattle.lists.proofs.Bools.{absurd}
use Rattle.lists.proofs.Tabulate.{each_map, each_at, each_by_place}
use Rattle.encoding.specs.Bytes.{from_bytes, to_bytes, part, split, joined}
use Rattle.encoding.proofs.Numbers.{length_bytes, number_bytes}
use Rattle.encoding.proofs.Parts.{part_past_end, part_seam}
use Rattle.encoding.proofs.Pieces.{split_joined}
use Rattle.job.specs.Job.{Action, Job, no_action, handover_count, shortest_count, head_size, reserve_in}
use Rattle.job.specs.Lengths.{longest_of, shortest_of}
use Rattle.job.specs.Passed.{Amounts, PassedAction, Passed}
use Rattle.job.specs.declared.Form.{Form}
use Rattle.job.specs.declared.Form.TheVariants.{Four, Five, Six}
use Rattle.job.specs.declared.StoreRule.{StoreRule}
use Rattle.job.specs.declared.StoreRule.TheVariants.{PerStep, PerHour}
use Rattle.job.proofs.Values.{few_shortest_lem, Shaped, Shape}
use Rattle.jobfile.specs.File.{reserve_bytes, head_bytes, amount_bytes, action_bytes, minute_bytes, extra_bodies}
use Rattle.jobfile.specs.File.{bodies, action_size, action_of, rule_of, job_of}
use Rattle.jobfile.proofs.Lengths.{length_head, length_amounts, length_action}
use Rattle.jobfile.proofs.Fields.{fields_read, numbers_read}

amounts_read : (xs : List ℕ) → Amounts xs → split 4 from_bytes (amount_bytes xs) ≡ xs
amounts_read xs h = numbers_read 4 xs (omega arith) (each_map (λ x e. omega arith) xs h)

minutes_read : (xs : List ℕ) → Each (λ x. x < 256) xs → split 1 from_bytes (minute_bytes xs) ≡ xs
minutes_read xs h = numbers_read 1 xs (omega arith) (each_map (λ x l. omega arith) xs h)

none : (xs : List ℕ) → length xs ≡ 0 → [] ≡ xs
none [] e = refl
none (x ∷ xs) e = absurd (omega arith)

-- handovers and shortest lengths, which are missing beyond the form
handovers_read : (form : Form) (J : Job) (pools : ℕ) → length J.handovers ≡ handover_count form pools
    → Each (λ x. x < 256) J.handovers → split 1 from_bytes (get_or (extra_bodies form J) 0 []) ≡ J.handovers
unfolding tabulate
handovers_read Four J pools e h = none J.handovers e
handovers_read Five J pools e h = minutes_read J.handovers h
handovers_read Six J pools e h = minutes_read J.handovers h

shortest_read : (form : Form) (J : Job) (actions : ℕ) → length J.shortest ≡ shortest_count form actions
    → Each (λ x. x < 256) J.shortest → split 1 from_bytes (get_or (extra_bodies form J) 1 []) ≡ J.shortest
unfolding tabulate
shortest_read Four J actions e h = none J.shortest e
shortest_read Five J actions e h = none J.shortest e
shortest_read Six J actions e h = minutes_read J.shortest h

-- a shortest length is a byte, since it is not over the longest
shortest_small : (J : Job) → Shape J → Each (λ a. a.duration < 256) J.actions → Passed J
    → Each (λ x. x < 256) J.shortest
unfolding shortest_of
shortest_small J h d f =
    each_by_place (λ x. x < 256) J.shortest (longest_of J)
    (λ i l.
    let few = few_shortest_lem J.form (length J.actions) in
    let count = h.shortest in
    let range = (f.ranges i (omega arith)).1 in
    let longest = each_at (λ a. a.duration < 256) J.actions no_action d i (omega arith) in
    omega arith)

module _ (p s facts : ℕ) where
  action_read : (a : Action) → Shaped p s a → PassedAction facts a → a.duration < 256
      → action_of p s (action_bytes a) ≡ a
  unfolding action_bytes action_of
  action_read a h f d =
      let P = amount_bytes a.pools in
      let S = amount_bytes a.stores in
      let e_p = h.pools in
      let e_s = h.stores in
      let l_p : length P ≡ 4 * p = length_amounts a.pools ∙ omega arith in
      let l_s : length S ≡ 4 * s = length_amounts a.stores ∙ omega arith in
      let sets = to_bytes 8 a.needs ∷ to_bytes 8 a.adds ∷ to_bytes 8 a.deletes ∷ P ∷ S ∷ [] in
      let fields = to_bytes 1 a.duration ∷ sets in
      let read = fields_read (action_bytes a) [] 0 fields (simp (append_assoc, append-nil)) refl in
      let r = simp (length_bytes, l_p, l_s) at read in
      rw (r.0, r.1.0, r.1.1.0, r.1.1.1.0, r.1.1.1.1.0, r.1.1.1.1.1.0)
      (rw (
        number_bytes 1 a.duration d,
        number_bytes 8 a.needs f.needs.word,
        number_bytes 8 a.adds f.adds.word,
        number_bytes 8 a.deletes f.deletes.word,
        amounts_read a.pools f.pools,
        amounts_read a.stores f.stores,
      ))

  actions_read : (actions : List Action) → Each (Shaped p s) actions → Each (PassedAction facts) actions
      → Each (λ a. a.duration < 256) actions → Each (λ a. action_of p s (action_bytes a) ≡ a) actions
  actions_read [] h f d = tt
  actions_read (a ∷ actions) h f d =
      (action_read a h.0 f.0 d.0, actions_read actions h.1 f.1 d.1)

-- the rule by the head's length, and the reserve in its last byte
rule_of_size : (rule : StoreRule) → rule_of (head_size rule) ≡ rule
rule_of_size PerStep = refl
rule_of_size PerHour = refl

rule_read : (J : Job) → rule_of (length (head_bytes J)) ≡ J.rule
rule_read J = ap rule_of (length_head J) ∙ rule_of_size J.rule

reserve_read : (J : Job) → Shape J → Passed J → from_bytes (part (head_bytes J) 19 1) ≡ J.reserve
unfolding head_bytes from_bytes
reserve_read J h f = by_rule J.rule J.reserve h.reserve f.reserve
  where
    before : List ℕ
    before = to_bytes 1 J.facts ++ to_bytes 2 J.deadline ++ to_bytes 8 J.start ++ to_bytes 8 J.goal

    count : length before ≡ 19
    count = simp (length-append, length_bytes)

    by_rule : (rule : StoreRule) (reserve : ℕ) → reserve_in rule reserve ≡ reserve → reserve ≤ 50
        → from_bytes (part (before ++ reserve_bytes rule reserve) 19 1) ≡ reserve
    by_rule PerStep reserve none l =
        let n = count in ap from_bytes (part_past_end (before ++ []) 19 1 (simp append-nil (omega arith))) ∙ none
    by_rule PerHour reserve same l =
        ap from_bytes
        (ap (λ (b : List ℕ). part (before ++ b) 19 1) (sym (append-nil (to_bytes 1 reserve)))
        ∙ part_seam before (to_bytes 1 reserve) [] 19 1 count (length_bytes 1 reserve))
        ∙ number_bytes 1 reserve (omega arith)

-- the job that bodies say, as many as there are
abbrev pub job_of_bodies : Form → List (List ℕ) → Job
job_of_bodies form bs =
    job_of form (get_or bs 0 []) (get_or bs 1 []) (get_or bs 2 []) (get_or bs 3 []) (get_or bs 4 []) (get_or bs 5 [])

module _ (J : Job) (h : Shape J) (d : Each (λ a. a.duration < 256) J.actions) (f : Passed J) where
  abbrev pools : ℕ
  pools = length J.pools

  abbrev stores : ℕ
  stores = length J.stores

  all_actions_read : (p s : ℕ) → p ≡ pools → s ≡ stores
      → split (action_size p s) (action_of p s) (joined action_bytes J.actions) ≡ J.actions
  all_actions_read p s e g =
      rw (e, g)
      (split_joined (action_size pools stores) (action_of pools stores) action_bytes J.actions (omega arith)
      (each_map (λ a q. length_action pools stores a q) J.actions h.actions)
      (actions_read pools stores J.facts J.actions h.actions f.actions d))

  pub bodies_read : job_of_bodies J.form (bodies J) ≡ J
  unfolding head_bytes job_of
  bodies_read =
      let P = amount_bytes J.pools in
      let S = amount_bytes J.stores in
      let l_p = length_amounts J.pools in
      let l_s = length_amounts J.stores in
      let last = reserve_bytes J.rule J.reserve in
      let fields = to_bytes 1 J.facts ∷ to_bytes 2 J.deadline ∷ to_bytes 8 J.start ∷ to_bytes 8 J.goal ∷ last ∷ [] in
      let read = fields_read (head_bytes J) [] 0 fields (simp (append_assoc, append-nil)) refl in
      let r = simp length_bytes at read in
      let few = f.facts in
      let soon = f.deadline in
      rw (r.0, r.1.0, r.1.1.0, r.1.1.1.0)
      (rw (
        number_bytes 1 J.facts (omega arith),
        number_bytes 2 J.deadline (omega arith),
        number_bytes 8 J.start f.start.word,
        number_bytes 8 J.goal f.goal.word,
        rule_read J,
        reserve_read J h f,
        amounts_read J.pools f.pools,
        handovers_read J.form J pools h.handovers
            (each_map (λ x l. omega arith) J.handovers f.handovers),
        amounts_read J.stores f.stores,
        shortest_read J.form J _ h.shortest (shortest_small J h d f),
        all_actions_read (length P / 4) (length S / 4) (omega arith) (omega arith),
      ))
