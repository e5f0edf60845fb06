-- The lengths of a file and of its bodies.
-- Assumes nothing.
use Prim.Native.Nat.{ℕ, ◌+◌, ◌*◌, ◌≤◌}
use mathlib.Core.Path.{◌≡◌, refl, ap, ap₂, ◌∙◌}
use mathlib.Core.List.{List, [], ◌∷◌, ◌++◌, append-nil}
use native.Mathlib.Nat.{mul-le-mul}
use native.Mathlib.Omega.{arith}
use lib.ListN.{length, get_or, length-append}
use Rattle.lists.proofs.Bools.{absurd}
use Rattle.lists.proofs.Tabulate.{each_all, each_map}
use Rattle.encoding.specs.Bytes.{to_bytes, joined}
use Rattle.encoding.proofs.Numbers.{length_bytes}
use Rattle.encoding.proofs.Pieces.{length_joined}
use Rattle.job.specs.Job.{Action, Job, entries, handover_count, shortest_count, head_size}
use Rattle.job.specs.Passed.{Passed}
use Rattle.job.specs.declared.Form.{Form}
use Rattle.job.specs.declared.Form.TheVariants.{Four, Five, Six}
use Rattle.job.specs.declared.StoreRule.{StoreRule}
use Rattle.job.specs.declared.StoreRule.TheVariants.{PerStep, PerHour}
use Rattle.job.proofs.Values.{few_handovers_lem, few_shortest_lem, Shaped, Shape}
use Rattle.jobfile.specs.File.{reserve_bytes, head_bytes, amount_bytes, action_bytes, minute_bytes, extra_bodies}
use Rattle.jobfile.specs.File.{bodies, contents, file_of_bodies, file_of, action_size, layout_of, places_of}

pub length_contents : (at : ℕ) (bs : List (List ℕ)) → length (joined (to_bytes 2) (contents at bs)) ≡ 4 * length bs
length_contents at [] = refl
length_contents at (b ∷ bs) =
    let rest = length_contents (at + length b) bs in simp (length-append, length_bytes) (omega arith)

pub length_of_bodies : (bs : List (List ℕ)) → length (file_of_bodies bs) ≡ 4 * length bs + length (joined (λ b. b) bs)
length_of_bodies bs = let c = length_contents (4 * length bs) bs in simp length-append (omega arith)

pub length_reserve : (rule : StoreRule) (reserve : ℕ) → 19 + length (reserve_bytes rule reserve) ≡ head_size rule
length_reserve PerStep reserve = refl
length_reserve PerHour reserve = ap (λ (n : ℕ). 19 + n) (length_bytes 1 reserve)

pub length_head : (J : Job) → length (head_bytes J) ≡ head_size J.rule
unfolding head_bytes
length_head J = let r = length_reserve J.rule J.reserve in simp (length-append, length_bytes) (omega arith)

pub short_head_lem : (rule : StoreRule) → (19 ≤ head_size rule) × (head_size rule ≤ 20)
short_head_lem PerStep = (omega arith, omega arith)
short_head_lem PerHour = (omega arith, omega arith)

pub length_amounts : (xs : List ℕ) → length (amount_bytes xs) ≡ length xs * 4
length_amounts xs = length_joined (to_bytes 4) 4 xs (each_all (λ x. length_bytes 4 x) xs)

pub length_minutes : (xs : List ℕ) → length (minute_bytes xs) ≡ length xs
length_minutes xs =
    let l = length_joined (to_bytes 1) 1 xs (each_all (λ x. length_bytes 1 x) xs) in omega arith

-- ── by the form ──

pub least_entries : (form : Form) → 4 ≤ entries form
least_entries Four = omega arith
least_entries Five = omega arith
least_entries Six = omega arith

pub most_entries : (form : Form) → entries form ≤ 6
most_entries Four = omega arith
most_entries Five = omega arith
most_entries Six = omega arith

-- the bodies behind the actions, and their bytes
extra_count : (form : Form) (J : Job) → 4 + length (extra_bodies form J) ≡ entries form
extra_count Four J = refl
extra_count Five J = refl
extra_count Six J = refl

no_minutes : (xs : List ℕ) → length xs ≡ 0 → [] ≡ minute_bytes xs
no_minutes [] e = refl
no_minutes (x ∷ xs) e = absurd (omega arith)

pub extra_bytes : (form : Form) (J : Job) (pools actions : ℕ) → length J.handovers ≡ handover_count form pools
    → length J.shortest ≡ shortest_count form actions
    → joined (λ b. b) (extra_bodies form J) ≡ minute_bytes J.handovers ++ minute_bytes J.shortest
extra_bytes Four J pools actions e f = ap₂ ◌++◌ (no_minutes J.handovers e) (no_minutes J.shortest f)
extra_bytes Five J pools actions e f = ap (λ (b : List ℕ). minute_bytes J.handovers ++ b) (no_minutes J.shortest f)
extra_bytes Six J pools actions e f =
    ap (λ (b : List ℕ). minute_bytes J.handovers ++ b) (append-nil (minute_bytes J.shortest))

-- the lengths of the fifth and the sixth body, which are missing beyond the form
pub handovers_sized : (form : Form) (J : Job) (pools : ℕ) → length J.handovers ≡ handover_count form pools
    → length (get_or (extra_bodies form J) 0 []) ≡ handover_count form pools
handovers_sized Four J pools e = refl
handovers_sized Five J pools e = length_minutes J.handovers ∙ e
handovers_sized Six J pools e = length_minutes J.handovers ∙ e

pub shortest_sized : (form : Form) (J : Job) (actions : ℕ) → length J.shortest ≡ shortest_count form actions
    → length (get_or (extra_bodies form J) 1 []) ≡ shortest_count form actions
shortest_sized Four J actions e = refl
shortest_sized Five J actions e = refl
shortest_sized Six J actions e = length_minutes J.shortest ∙ e

pub count_bodies : (J : Job) → length (bodies J) ≡ entries J.form
count_bodies J = let e = extra_count J.form J in omega arith

-- ── the actions and the file ──

pub length_action : (p s : ℕ) (a : Action) → Shaped p s a → length (action_bytes a) ≡ action_size p s
unfolding action_bytes
length_action p s a h =
    let e = h.pools in
    let f = h.stores in
    simp (length-append, length_bytes, length_amounts) (omega arith)

module _ (J : Job) (h : Shape J) where
  abbrev size : ℕ
  size = action_size (length J.pools) (length J.stores)

  pub length_actions : length (joined action_bytes J.actions) ≡ length J.actions * size
  length_actions =
      length_joined action_bytes size J.actions (each_map (λ a e. length_action _ _ a e) J.actions h.actions)

  pub length_file : length (file_of J) ≡ 4 * entries J.form
      + head_size J.rule
      + 4 * length J.pools
      + 4 * length J.stores
      + length J.actions * size
      + handover_count J.form (length J.pools)
      + shortest_count J.form (length J.actions)
  unfolding file_of
  length_file =
      let l = length_of_bodies (bodies J) in
      let n = count_bodies J in
      let x = ap length (extra_bytes J.form J _ _ h.handovers h.shortest) in
      let b = length-append (minute_bytes J.handovers) (minute_bytes J.shortest) in
      let w = length_minutes J.handovers in
      let m = length_minutes J.shortest in
      let g = h.handovers in
      let k = h.shortest in
      let f = length_head J in
      let p = length_amounts J.pools in
      let s = length_amounts J.stores in
      let a = length_actions in
      let parts : length (joined (λ b. b) (bodies J)) ≡ length (head_bytes J)
      + (length (amount_bytes J.pools)
      + (length (amount_bytes J.stores)
      + (length (joined action_bytes J.actions) + length (joined (λ b. b) (extra_bodies J.form J))))) =
      simp length-append in
      omega arith

  -- 64 actions of 57 bytes, and 144 bytes more
  pub file_fits : Passed J → length (file_of J) ≤ 4096
  file_fits f =
      let p = f.few_pools in
      let s = f.few_stores in
      let one : size ≤ 57 = omega arith in
      let a = mul-le-mul {n₂ = 64} {m₂ = 57} f.few_actions one in
      let e = most_entries J.form in
      let head = short_head_lem J.rule in
      let w = few_handovers_lem J.form (length J.pools) in
      let m = few_shortest_lem J.form (length J.actions) in
      let n = f.few_actions in
      let l = length_file in
      omega arith

-- the last body ends with the file
pub end_of_places : (J : Job) → (places_of (layout_of J.form (bodies J))).end ≡ length (file_of J)
unfolding file_of
end_of_places J =
    let l = length_of_bodies (bodies J) in
    let n = count_bodies J in
    let h = head_bytes J in
    let p = amount_bytes J.pools in
    let s = amount_bytes J.stores in
    let a = joined action_bytes J.actions in
    let extra = by_form J.form in
    let parts : length (joined (λ b. b) (bodies J))
    ≡ length h + (length p + (length s + (length a + length (joined (λ b. b) (extra_bodies J.form J))))) =
    simp length-append in
    omega arith
  where
    by_form : (form : Form) → length (joined (λ b. b) (extra_bodies form J))
        ≡ length (get_or (extra_bodies form J) 0 []) + length (get_or (extra_bodies form J) 1 [])
    by_form Four = refl
    by_form Five = let e = append-nil (minute_bytes J.handovers) in simp length-append (omega arith)
    by_form Six = let e = append-nil (minute_bytes J.shortest) in simp length-append (omega arith)
