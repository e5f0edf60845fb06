-- `pooled` meets its contract: one's own handovers over the other's.
use Rattle.std.proofs.Common.{rules, ◌≡◌, length, List, ℕ, ◌++◌, cond, ltb, get_or, take, drop, replicate, arith, sym, ap, ap₂, ◌∙◌}
use Rattle.lists.specs.Lists.{firsts}
use Rattle.lists.proofs.Tabulate.{firsts_all, tabulate_same}
use Rattle.pooling.proofs.Arrays.{front_over, length_over}
use Rattle.pooling.proofs.Sums.{get_d_zeros}
use Rattle.pooling.proofs.PooledValues.{handovers_by_counts}
use Rattle.pooling.proofs.handovers.pooled.Goals as goal

pub returns : goal.returns
returns c =
    let a = c.args.first.counts.pools in
    let b = c.args.second.counts.pools in
    let xs = c.handovers-mine.result in
    let ys = c.handovers-other.result in
    let n = c.requires.fits_first.0 in
    let m = c.requires.fits_second.0 in
    let four : length xs ≡ 4 = search rules in
    let too : length ys ≡ 4 = search rules in
    let zeros : List ℕ = replicate 4 0 in
    let inner : List ℕ = take b ys ++ drop b zeros in
    let outer : List ℕ = take a xs ++ drop a inner in
    let one : length inner ≡ 4 = length_over b ys zeros (omega arith) too in
    let both : length outer ≡ 4 = length_over a xs inner (omega arith) (four ∙ sym one) ∙ one in
    ap₂ (λ (x y : List ℕ). x ++ drop a (y ++ drop b zeros)) c.copy_from_slice-2.ensures.after
    c.copy_from_slice.ensures.after
    ∙ sym (firsts_all outer 0)
    ∙ ap (λ (i : ℕ). firsts i 0 outer) both
    ∙ tabulate_same 4 _ _
    (λ k l. front_over a xs inner k (omega arith)
    ∙ ap (λ (rest : ℕ). cond (ltb k a) (get_or xs k 0) rest)
    (front_over b ys zeros k (omega arith)
    ∙ ap (λ (rest : ℕ). cond (ltb k b) (get_or ys k 0) rest) (get_d_zeros 4 k)))
    ∙ handovers_by_counts c.args.first c.args.second xs ys c.handovers-mine.ensures c.handovers-other.ensures
    c.requires.fits_first c.requires.fits_second
