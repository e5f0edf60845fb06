use Prim.Native.Nat.{ℕ, ◌+◌, ◌*◌, ◌/◌, ◌%◌, ◌<◌, ◌≤◌}
use mathlib.Core.Path.{◌≡◌, sym, ap, ◌∙◌, subst}
use native.Mathlib.Nat.{div-add-mod, mod-lt, mod-eq_of_lt}
use native.Mathlib.Omega.{arith}
use Rattle.tables.specs.declared.Steps.{Steps}
use Rattle.tables.specs.Tables.{pushed}
use Rattle.search.proofs.Counted.{none_of}
use Rattle.walker.specs.Walk.{Kept}
use Rattle.walker.proofs.Walking.{kept_of_next}
use Rattle.walker.proofs.Attempts.{attempt_lacks_needs, attempt_is_barren, attempt_finds_none, attempt_walks_on, walk_is_own, walk_is_full, meets_first, meets_next, walk_finds, walk_ends}
use Rattle.walker.proofs.walk.+attempt_walk_on.Goals as goal

-- the minute of a place before the horizon has 16 bits
place-in-minutes : (place horizon : ℕ) → place < horizon * 64 → horizon ≤ 1440
    → (place / 64 < 65536) × (place / 64 % 65536 ≡ place / 64)
place-in-minutes place horizon l m =
    let d = div-add-mod place 64 in
    let small : place / 64 < 65536 = omega arith in
    (small, mod-eq_of_lt small)

pub attempt-overflow_cast-number : goal.attempt-overflow_cast-number
attempt-overflow_cast-number t c =
    let l : c.args.place % 64 < 64 = mod-lt c.args.place (omega arith) in omega arith

pub attempt-overflow_cast-start : goal.attempt-overflow_cast-start
attempt-overflow_cast-start t c =
    let l : c.args.place / 64 % 65536 < 65536 = mod-lt (c.args.place / 64) (omega arith) in omega arith

pub attempt-needs_allow-requires : goal.attempt-needs_allow-requires
attempt-needs_allow-requires t c =
    let h = c.requires in (h.0.lent, h.5.size)

pub attempt-returns-then-not-needs_allow : goal.attempt-returns-then-not-needs_allow
attempt-returns-then-not-needs_allow t c =
    let h = c.requires in
    let m = place-in-minutes c.args.place c.args.frame.horizon h.4 h.0.horizon in
    attempt_lacks_needs _ _ _ _ c.args.frame c.args.steps h.1 c.args.held c.args.place c.args.left
    _ h.5 _ m.1 _ (c.if-not-needs_allow.true) c.needs_allow.ensures _ c.none.ensures

pub attempt-push-next-requires : goal.attempt-push-next-requires
attempt-push-next-requires t c =
    let h = c.requires.3 in omega arith

pub attempt-steps_allow-requires : goal.attempt-steps_allow-requires
attempt-steps_allow-requires t c =
    let h = c.requires in
    let known = c.needs_allow.ensures.known (c.if-not-needs_allow.false) in
    let m = place-in-minutes c.args.place c.args.frame.horizon h.4 h.0.horizon in
    let next = subst (Kept c.args.frame)
    (sym (c.push-next.ensures ∙ ap (pushed c.args.steps (c.args.place % 64)) m.1))
    (kept_of_next c.args.frame c.args.steps h.1 h.3 c.args.place known m.0) in
    (h.0.lent, next.known, h.5.size)

pub attempt-returns-then-not-steps_allow : goal.attempt-returns-then-not-steps_allow
attempt-returns-then-not-steps_allow t c =
    let h = c.requires in
    let known = c.needs_allow.ensures.known (c.if-not-needs_allow.false) in
    let m = place-in-minutes c.args.place c.args.frame.horizon h.4 h.0.horizon in
    attempt_is_barren _ _ _ _ c.args.frame c.args.steps h.1 c.args.held c.args.place c.args.left
    h.3 known m.0 _ m.1 _ c.push-next.ensures
    _ h.5 _ (c.if-not-steps_allow.true) c.steps_allow.ensures _ c.none-then-not-steps_allow.ensures

pub attempt-search_allows-requires : goal.attempt-search_allows-requires
attempt-search_allows-requires t c =
    let h = c.requires in
    let known = c.needs_allow.ensures.known (c.if-not-needs_allow.false) in
    let m = place-in-minutes c.args.place c.args.frame.horizon h.4 h.0.horizon in
    let l : c.args.place % 64 < 64 = mod-lt c.args.place (omega arith) in (
      h.0,
      subst (Kept c.args.frame) (sym (c.push-next.ensures ∙ ap (pushed c.args.steps (c.args.place % 64)) m.1))
          (kept_of_next c.args.frame c.args.steps h.1 h.3 c.args.place known m.0),
      l,
      h.2,
    )

pub attempt-returns-then-not-search_allows : goal.attempt-returns-then-not-search_allows
attempt-returns-then-not-search_allows t c =
    let h = c.requires in
    let known = c.needs_allow.ensures.known (c.if-not-needs_allow.false) in
    let m = place-in-minutes c.args.place c.args.frame.horizon h.4 h.0.horizon in
    attempt_finds_none _ _ _ _ c.args.frame c.args.steps h.1 c.args.held c.args.place c.args.left
    h.3 known m.0 _ m.1 _ c.push-next.ensures
    _ (c.if-not-search_allows.true) c.search_allows.ensures _ c.none-then-not-search_allows.ensures

pub attempt-overflow_add-place : goal.attempt-overflow_add-place
attempt-overflow_add-place t c =
    let h = c.requires.4 in let k = c.requires.0.horizon in omega arith

pub attempt-walk_on-requires : goal.attempt-walk_on-requires
attempt-walk_on-requires t c =
    let h = c.requires in
    let known = c.needs_allow.ensures.known (c.if-not-needs_allow.false) in
    let m = place-in-minutes c.args.place c.args.frame.horizon h.4 h.0.horizon in
    let e = c.push-next.ensures in
    let count : c.push-next.result.count ≡ c.args.steps.count + 1 = ap (λ (s : Steps). s.count) e in
    let room = h.3 in (
      omega arith,
      (
        h.0,
        subst (Kept c.args.frame) (sym (c.push-next.ensures ∙ ap (pushed c.args.steps (c.args.place % 64)) m.1))
            (kept_of_next c.args.frame c.args.steps h.1 h.3 c.args.place known m.0),
        h.2,
        h.5,
      ),
    )

pub attempt-returns : goal.attempt-returns
attempt-returns t c =
    let h = c.requires in
    let known = c.needs_allow.ensures.known (c.if-not-needs_allow.false) in
    let m = place-in-minutes c.args.place c.args.frame.horizon h.4 h.0.horizon in
    attempt_walks_on _ _ _ _ c.args.frame c.args.steps h.1 c.args.held c.args.place c.args.left
    h.3 known m.0 _ m.1 _ c.push-next.ensures
    _ c.walk_on.ensures

pub walk_on-visit-w-requires : goal.walk_on-visit-w-requires
walk_on-visit-w-requires t c =
    c.requires.1.known.few

pub walk_on-returns-then-is_some : goal.walk_on-returns-then-is_some
walk_on-returns-then-is_some t c =
    let h = c.requires in
    walk_is_own _ _ _ _ c.args.frame c.args.steps h.1 c.args.held c.args.from c.args.left _ c.visit-w.ensures (sym c.is_some.ensures ∙ c.if-is_some.true)

pub walk_on-returns-then-steps-ge-STEPS : goal.walk_on-returns-then-steps-ge-STEPS
walk_on-returns-then-steps-ge-STEPS t c =
    let h = c.requires in
    walk_is_full _ _ _ _ c.args.frame c.args.steps h.1 c.args.held c.args.from c.args.left _ c.visit-w.ensures (none_of _ (sym c.is_some.ensures ∙ c.if-is_some.false)) c.if-steps-ge-STEPS.true

pub walk_on-overflow_mul-last : goal.walk_on-overflow_mul-last
walk_on-overflow_mul-last t c =
    let h = c.requires.0.horizon in let e = c.wide-last.ensures.0 in omega arith

pub walk_on-loop-place-init : goal.walk_on-loop-place-init
walk_on-loop-place-init t c =
    let h = c.requires in
    ((none_of _ (sym c.is_some.ensures ∙ c.if-is_some.false)), omega arith, meets_first _ _ _ _ c.args.frame c.args.steps h.1 c.args.held c.args.from c.args.left _ c.visit-w.ensures (none_of _ (sym c.is_some.ensures ∙ c.if-is_some.false)))

pub walk_on-forward-holds-requires : goal.walk_on-forward-holds-requires
walk_on-forward-holds-requires t c =
    let h = c.requires in (h.0.lent, h.1.known)

pub walk_on-attempt-w-requires : goal.walk_on-attempt-w-requires
walk_on-attempt-w-requires t c =
    let h = c.requires in
    let e = c.wide-last.ensures.0 in
    let l = c.loop-place-test.true in
    let room = c.if-steps-ge-STEPS.false in
    (omega arith, (h.0, h.1, h.2, room, omega arith, h.3))

pub walk_on-returns-then-is_some-2 : goal.walk_on-returns-then-is_some-2
walk_on-returns-then-is_some-2 t c =
    let h = c.requires in
    walk_finds _ _ _ _ c.args.frame c.args.steps h.1 c.args.held c.args.from c.args.left
    c.loop-place.w c.loop-place.holds c.loop-place.place c.loop-place.invariant.2 c.loop-place.invariant.1 c.forward-holds.result c.forward-holds.ensures
    _ c.attempt-w.ensures (sym c.is_some-in-loop-place.ensures ∙ c.if-is_some-2.true)

pub walk_on-overflow_add-place : goal.walk_on-overflow_add-place
walk_on-overflow_add-place t c =
    let e = c.wide-last.ensures.0 in let l = c.loop-place-test.true in let h = c.requires.0.horizon in omega arith

pub walk_on-loop-place-smaller : goal.walk_on-loop-place-smaller
walk_on-loop-place-smaller t c =
    let l = c.loop-place-test.true in omega arith

pub walk_on-loop-place-preserved : goal.walk_on-loop-place-preserved
walk_on-loop-place-preserved t c =
    let h = c.requires in
    let after = c.loop-place.invariant.1 in (
      none_of _ (sym c.is_some-in-loop-place.ensures ∙ c.if-is_some-2.false),
      omega arith,
      meets_next _ _ _ _ c.args.frame c.args.steps h.1 c.args.held c.args.from c.args.left
          c.loop-place.w c.loop-place.holds c.loop-place.place c.loop-place.invariant.2 c.loop-place.invariant.1 c.forward-holds.result c.forward-holds.ensures
          _ c.attempt-w.ensures (none_of _ (sym c.is_some-in-loop-place.ensures ∙ c.if-is_some-2.false)),
    )

pub walk_on-returns : goal.walk_on-returns
walk_on-returns t c =
    let h = c.requires in
    let e = c.wide-last.ensures.0 in
    let l = c.loop-place-test.false in
    walk_ends _ _ _ _ c.args.frame c.args.steps h.1 c.args.held c.args.from c.args.left
    c.loop-place.w c.loop-place.holds c.loop-place.place c.loop-place.invariant.0 c.loop-place.invariant.2 (omega arith)
