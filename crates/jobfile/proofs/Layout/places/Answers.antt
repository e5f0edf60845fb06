-- `places` meets its contract. Lengths of 16 bits add up to a small number.
use Rattle.jobfile.proofs.Lengths.{most_entries}
use native.Mathlib.Omega.{arith}
use Rattle.jobfile.proofs.Layout.places.Goals as goal

pub overflow_mul-head : goal.overflow_mul-head
overflow_mul-head c =
    let few = most_entries c.args.self.form in
    rw c.entries-head.ensures (omega arith)

pub overflow_add-pools : goal.overflow_add-pools
overflow_add-pools c =
    let few = most_entries c.args.self.form in
    rw c.entries-head.ensures (omega arith)

pub overflow_add-stores : goal.overflow_add-stores
overflow_add-stores c =
    let c-args = c.args in
    let few = most_entries c-args.self.form in
    rw c.entries-head.ensures (omega arith)

pub overflow_add-actions : goal.overflow_add-actions
overflow_add-actions c =
    let c-args = c.args in
    let c-entries = c.entries-head in
    let few = most_entries c-args.self.form in
    rw c-entries.ensures (omega arith)

pub overflow_add-handovers : goal.overflow_add-handovers
overflow_add-handovers c =
    let c-args = c.args in
    let c-entries = c.entries-head in
    let few = most_entries c-args.self.form in
    rw c-entries.ensures (omega arith)

pub overflow_add-shortest : goal.overflow_add-shortest
overflow_add-shortest c =
    let c-args = c.args in
    let c-entries = c.entries-head in
    let few = most_entries c-args.self.form in
    rw c-entries.ensures (omega arith)

pub overflow_add-end : goal.overflow_add-end
overflow_add-end c =
    let c-args = c.args in
    let c-entries = c.entries-head in
    let few = most_entries c-args.self.form in
    rw c-entries.ensures (omega arith)

pub returns : goal.returns
returns c =
    let c-entries = c.entries-head in
    rw c-entries.ensures
