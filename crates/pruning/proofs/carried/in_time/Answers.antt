-- `in_time` meets its contract: what must be carried comes later than the event minute.
use Prim.Native.Nat.{ℕ}
use mathlib.Core.Path.{refl, ap, ap₂, ◌∙◌}
use Rattle.facts.specs.FactSet.{union, difference}
use Rattle.regression.specs.Wanted.{added_between}
use Rattle.tables.specs.Tables.{kept_of}
use Rattle.pruning.proofs.CarriedLaws.{event_before, carried_from}
use Rattle.pruning.proofs.StateTests.{dead_when_carried}
use native.Mathlib.Omega.{arith}
use Rattle.pruning.proofs.carried.in_time.Goals as goal

pub returns : goal.returns
returns c =
    λ none e J described timely keeps stands.
    let at = c.args in
    let few = c.requires.0.amounts.few in
    let w = c.from-minute.ensures in
    let late = c.by.ensures e in
    let s : ℕ = c.latest_start-event.result in
    let after = c.requires.8 in
    let latest = c.latest_start-event.ensures.not_before in
    let early = c.latest_start-event.ensures.before in
    let in_time = stands.in_time in
    let origin = c.requires.7 in
    let event = event_before J at.sets.now at.numbers.now at.frame described few at.st stands keeps
    at.left _ _ none c.latest_start-event.ensures in
    let given = c.gone-given.ensures J described.each
    ∙ ap₂ (λ (a b : ℕ). added_between a b (kept_of J at.frame)) w c.from.ensures in
    let is = c.union-carried.ensures.0
    ∙ ap (λ (set : ℕ). union set at.st.at.held)
    (c.difference.ensures.0
    ∙ ap (difference at.st.wanted)
    (c.union-added.ensures.0 ∙ ap (λ (set : ℕ). union set c.gone-given.result) c.union-now.ensures.0)) in
    let carried = carried_from J at.sets.now at.numbers.now at.frame described few at.st stands keeps
    at.left s c.adds_of.result c.gone-given.result c.union-carried.result c.adds_of.ensures given is in
    dead_when_carried J at.frame at.times.now timely described.facts (omega arith) at.st.steps keeps
    at.st refl stands at.left s c.union-carried.result (omega arith) event carried (omega arith)
