use Rattle.std.proofs.Common.{◌≡◌, ℕ, ◌<◌, List, All, length, map, sym, ◌∙◌, ap, refl}
use Rattle.std.proofs.lemmas.List.{length-map}
use Rattle.std.proofs.lemmas.List.Elements.{All-map}
use Rattle.fix_solver.specs.declared.tests.graph.Node.{Node}
use Rattle.fix_solver.proofs.tests.graph.Graph.new.Goals as goal

-- the sources of each node are nodes
pub invariant_of-result : goal.invariant_of-result
invariant_of-result c =
    let nodes = c.args.nodes.items in
    let seen : Node → List ℕ × List ℕ = λ n. (n.name.items, n.sources.items) in
    let count : c.len.result ≡ length (map seen nodes) = c.len.ensures ∙ sym c.deref.ensures.len ∙ ap length c.deref.ensures.value ∙ sym (length-map nodes seen) in
    let below = rw c.deref.ensures.value at c.if-have_sources_below.ensures.0 refl in
    All-map (λ (node : List ℕ × List ℕ). All (λ m. m < length (map seen nodes)) node.1) seen nodes (rw count at below)
