-- What the set of nodes becomes, as the definitions have it.
use Rattle.std.proofs.Common.{◌≡◌, ◌+◌, Bool, true, false, cond, not, if◌then◌else◌, List, [], ◌∷◌, ◌++◌, map, refl, sym, ap, ◌∙◌}
use Rattle.std.specs.List.{list_any, position_or_len}
use Rattle.std.specs.Ordering.{on}
use Rattle.std.proofs.lemmas.List.{map-append}
use Rattle.indexmap.specs.IndexSet.{insert_key}
use Rattle.pks_terms.proofs.ListLaws.{any_alike}
use Rattle.pks_dag.specs.declared.nodes.Node as declared
use Rattle.pks_dag.specs.NodeViews.{node_of}
use Rattle.pks_dag.specs.NodeEquality.{same_node}
use Rattle.pks_dag.specs.Sharing.{with_node}

put_by : (b : Bool) (ks : List declared.Node) (k : declared.Node) → map node_of (if b then ks else ks ++ k ∷ []) ≡ cond b (map node_of ks) (map node_of ks ++ node_of k ∷ [])
put_by true ks k = refl
put_by false ks k = map-append node_of ks (k ∷ [])

pub inserted : (ks : List declared.Node) (k : declared.Node) → map node_of (insert_key (on node_of same_node) ks k) ≡ with_node (map node_of ks) (node_of k)
inserted ks k =
    put_by (list_any (on node_of same_node k) ks) ks k
    ∙ ap (λ b. cond b (map node_of ks) (map node_of ks ++ node_of k ∷ [])) (sym (any_alike (same_node (node_of k)) (on node_of same_node k) node_of (λ y. refl) ks))

pub same_place : (ks : List declared.Node) (k : declared.Node) → position_or_len (on node_of same_node k) ks ≡ position_or_len (same_node (node_of k)) (map node_of ks)
same_place [] k = refl
same_place (x ∷ ks) k = ap (λ n. cond (not (same_node (node_of k) (node_of x))) (1 + n) 0) (same_place ks k)
