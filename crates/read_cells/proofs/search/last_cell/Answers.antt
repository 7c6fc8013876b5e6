-- The first n keys never fall, so that both tests part them.
use native.Mathlib.Omega.{arith}
use borrow.Author.Rules.{rules}
use Prim.Native.Nat.{ℕ, ◌+◌, ◌-◌, ◌<◌}
use lib.Dec.{leb, ltb}
use lib.ListN.{get_or, take}
use lib.Seq.{get_or-take}
use mathlib.Core.Path.{subst}
use Rattle.std.proofs.lemmas.List.Sorted.{IsPartitionPoint-from_clause, IsPartitionedBy-leb, IsPartitionedBy-ltb}
use Rattle.read_cells.specs.Keys.{Passes}
use Rattle.read_cells.proofs.PassLaws.{rising, passes-most, passes-below, passed, cell-found}
use Rattle.read_cells.proofs.search.last_cell.Goals as goal

pub overflow_sub-last : goal.overflow_sub-last
overflow_sub-last c =
    let s = c.requires.searchable in
    let to = c.partition_point-to in
    let point = IsPartitionPoint-from_clause (λ y. leb y c.args.k) _ _ to.ensures.partitioned (IsPartitionedBy-leb (λ y. y) _ c.args.k (rising s)) (λ a r q k. search rules) in
    passed (passes-most c.args.k s.room to.ensures.bound point) 0 (omega arith) (omega arith)

pub returns : goal.returns
returns c =
    let s = c.requires.searchable in
    let keys = c.args.keys.now in
    let to = c.partition_point-to in
    let from = c.partition_point-from in
    let ends : Passes keys c.args.n (c.args.k + 1) to.result =
    passes-most c.args.k s.room to.ensures.bound
    (IsPartitionPoint-from_clause (λ y. leb y c.args.k) _ _ to.ensures.partitioned (IsPartitionedBy-leb (λ y. y) _ c.args.k (rising s)) (λ a r q k. search rules)) in
    let some : 0 < to.result = passed ends 0 (omega arith) (omega arith) in
    let last = get_or-take c.args.n keys (to.result - 1) 0 (omega (arith, ends.within)) in
    let b : ℕ = get_or (take c.args.n keys) (to.result - 1) 0 in
    let starts : Passes keys c.args.n b from.result =
    passes-below b s.room from.ensures.bound
    (IsPartitionPoint-from_clause (λ y. ltb y b) _ _ from.ensures.partitioned (IsPartitionedBy-ltb (λ y. y) _ b (rising s)) (λ a r q k. search rules)) in
    cell-found some ends (subst (λ x. Passes keys c.args.n x from.result) last starts)
