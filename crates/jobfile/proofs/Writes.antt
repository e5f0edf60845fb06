-- Writes one after the other are one write: of an action, of the head, of the file.
-- Assumes nothing.
use Prim.Native.Nat.{ℕ, ◌+◌, ◌*◌, ◌≤◌}
use mathlib.Core.Path.{◌≡◌, refl, ap, sym, ◌∙◌}
use mathlib.Core.List.{List, [], ◌∷◌, ◌++◌, append_assoc, append-nil}
use native.Mathlib.Omega.{arith}
use lib.ListN.{length, length-append}
use Rattle.lists.specs.Lists.{tabulate, firsts}
use Rattle.encoding.specs.Bytes.{to_bytes, joined, overwrite}
use Rattle.encoding.proofs.Numbers.{length_bytes}
use Rattle.encoding.proofs.Overwrite.{overwrite_none, overwrite_overwrite}
use Rattle.job.specs.Job.{Action, Job, entries}
use Rattle.job.specs.declared.Form.{Form}
use Rattle.job.specs.declared.Form.TheVariants.{Four, Five, Six}
use Rattle.job.proofs.Values.{Shape}
use Rattle.jobfile.specs.File.{reserve_bytes, head_bytes, amount_bytes, action_bytes, minute_bytes, extra_bodies}
use Rattle.jobfile.specs.declared.Layout.{Layout}
use Rattle.jobfile.specs.declared.Places.{Places}
use Rattle.jobfile.specs.File.{bodies, contents, content_numbers, file_of, layout_of, places_of, numbers_of}
use Rattle.jobfile.proofs.Lengths.{length_contents, length_amounts, length_minutes, extra_bytes, handovers_sized}
use Rattle.jobfile.proofs.Lengths.{count_bodies}

-- each list of bytes in turn written over o at its place
abbrev pub writes : List ℕ → List (ℕ × List ℕ) → List ℕ
writes o [] = o
writes o ((at, bytes) ∷ rest) = writes (overwrite o at bytes) rest

-- each place is where the bytes before it end, and not beyond n
abbrev InTurn : ℕ → ℕ → List (ℕ × List ℕ) → Type 0
InTurn n next [] = Unit
InTurn n next ((at, bytes) ∷ rest) = (at ≡ next) × (at ≤ n) × InTurn n (next + length bytes) rest

abbrev bytes_of : List (ℕ × List ℕ) → List ℕ
bytes_of = joined (λ w. w.1)

writes_in_turn : (o : List ℕ) (at : ℕ) (ws : List (ℕ × List ℕ)) → InTurn (length o) at ws
    → writes o ws ≡ overwrite o at (bytes_of ws)
writes_in_turn o at ws t =
    ap (λ (b : List ℕ). writes b ws) (sym (overwrite_none o at)) ∙ behind [] at ws (omega arith) t
  where
    behind : (A : List ℕ) (next : ℕ) (ws : List (ℕ × List ℕ)) → next ≡ at + length A → InTurn (length o) next ws
        → writes (overwrite o at A) ws ≡ overwrite o at (A ++ bytes_of ws)
    behind A next [] e t = ap (overwrite o at) (sym (append-nil A))
    behind A next ((place, bytes) ∷ ws) e t =
        let p = t.0 in
        let l = length-append A bytes in
        ap (λ (b : List ℕ). writes b ws) (overwrite_overwrite o at A bytes place (omega arith) t.1)
        ∙ behind (A ++ bytes) (next + length bytes) ws (omega arith) t.2
        ∙ ap (overwrite o at) (append_assoc A bytes (bytes_of ws))

abbrev pub action_writes : ℕ → ℕ → Action → List (ℕ × List ℕ)
action_writes at stores a =
    (at, to_bytes 1 a.duration)
    ∷ (at + 1, to_bytes 8 a.needs)
    ∷ (at + 9, to_bytes 8 a.adds)
    ∷ (at + 17, to_bytes 8 a.deletes)
    ∷ (at + 25, amount_bytes a.pools)
    ∷ (stores, amount_bytes a.stores)
    ∷ []

pub write_action : (o : List ℕ) (at : ℕ) (a : Action) (stores : ℕ) → stores ≡ at + 25 + 4 * length a.pools
    → stores ≤ length o → writes o (action_writes at stores a) ≡ overwrite o at (action_bytes a)
unfolding action_bytes
write_action o at a stores e l =
    let p = length_amounts a.pools in
    writes_in_turn o at (action_writes at stores a) (simp length_bytes (omega arith))
    ∙ ap (overwrite o at) (simp (append_assoc, append-nil))

abbrev pub head_writes : ℕ → Job → List (ℕ × List ℕ)
head_writes at J =
    (at, to_bytes 1 J.facts)
    ∷ (at + 1, to_bytes 2 J.deadline)
    ∷ (at + 3, to_bytes 8 J.start)
    ∷ (at + 11, to_bytes 8 J.goal)
    ∷ (at + 19, reserve_bytes J.rule J.reserve)
    ∷ []

pub write_head : (o : List ℕ) (at : ℕ) (J : Job) → at + 19 ≤ length o
    → writes o (head_writes at J) ≡ overwrite o at (head_bytes J)
unfolding head_bytes
write_head o at J l =
    writes_in_turn o at (head_writes at J) (simp length_bytes (omega arith))
    ∙ ap (overwrite o at) (simp (append_assoc, append-nil))

-- the contents, then each body at its place
abbrev pub file_writes : Job → Places → List (ℕ × List ℕ)
file_writes J at =
    (0, joined (to_bytes 2) (content_numbers (bodies J)))
    ∷ (at.head, head_bytes J)
    ∷ (at.pools, amount_bytes J.pools)
    ∷ (at.stores, amount_bytes J.stores)
    ∷ (at.actions, joined action_bytes J.actions)
    ∷ (at.handovers, minute_bytes J.handovers)
    ∷ (at.shortest, minute_bytes J.shortest)
    ∷ []

module _ (J : Job) (h : Shape J) where
  abbrev layout : Layout
  layout = layout_of J.form (bodies J)

  pub write_file_lem : (o : List ℕ) → (places_of layout).end ≤ length o
      → writes o (file_writes J (places_of layout)) ≡ overwrite o 0 (file_of J)
  unfolding file_of
  write_file_lem o l =
      let c = length_contents (4 * length (bodies J)) (bodies J) in
      let n = count_bodies J in
      let w = handovers_sized J.form J _ h.handovers in
      let m = length_minutes J.handovers in
      let e = h.handovers in
      let extra = extra_bytes J.form J _ _ h.handovers h.shortest in
      writes_in_turn o 0 (file_writes J (places_of layout)) (omega arith)
      ∙ ap (overwrite o 0) (rw (extra, append-nil))

  -- the numbers of the contents
  pub contents_of : firsts (2 * entries J.form) 0 (numbers_of layout (places_of layout)) ≡ content_numbers (bodies J)
  unfolding tabulate
  contents_of = rw (count_bodies J) (by_form J.form)
    where
      of : Form → List (List ℕ)
      of form =
          head_bytes J
          ∷ amount_bytes J.pools
          ∷ amount_bytes J.stores
          ∷ joined action_bytes J.actions
          ∷ extra_bodies form J

      by_form : (form : Form)
          → firsts (2 * entries form) 0 (numbers_of (layout_of form (of form)) (places_of (layout_of form (of form))))
          ≡ contents (4 * entries form) (of form)
      by_form Four = refl
      by_form Five = refl
      by_form Six = refl
