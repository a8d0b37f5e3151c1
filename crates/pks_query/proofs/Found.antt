-- Finding what is known in closed databases.
use Rattle.std.proofs.Common.{◌≡◌, ◌||◌, Bool, true, false, is_some, List, IsTrue, refl, sym, ◌∙◌}
use Rattle.std.specs.Ordering.{on}
use Rattle.pks_terms.specs.Syntax.{Term, as_object, Literal}
use Rattle.pks_terms.specs.Orders.{term_cmp, conj_cmp}
use Rattle.pks_terms.specs.Databases.{Five, normal, holds}
use Rattle.pks_terms.specs.Queries.{Query, Know, KnowWhether, KnowValue, known_value, is_member as is_whether, known_whether, answers}
use Rattle.pks_terms.specs.Signatures.{Signature}
use Rattle.pks_terms.specs.Worlds.{World, value_of, true_in, all_true_in}
use Rattle.pks_terms.specs.Meaning.{IsTrueOf}
use Rattle.pks_terms.specs.Views.{term_of, terms_of, conj_of}
use Rattle.pks_terms.specs.declared.term.Term.{Term as DTerm}
use Rattle.pks_terms.specs.declared.literal.Conj.{Conj}
use Rattle.pks_terms.specs.Closure.{normal_conj}
use Rattle.pks_kw.specs.Formulas.{formulas_of}
use Rattle.pks_laws.specs.Saying.{IsSaidOf}
use Rattle.pks_pmap_set.specs.Members.{is_member}
use Rattle.pks_pmap_set.proofs.Mapped.{is_member-map}
use Rattle.pks_laws.specs.Lookup.{is_among}
use Rattle.pks_laws.proofs.Answering.{answered_said}
use Rattle.pks_laws.proofs.NormalMembers.{closed_value, closed_member}
use Rattle.pks_query.specs.Closed.{AreClosed}

pub is_term_among : (t : DTerm) (ts : List DTerm) → is_member (on term_of term_cmp) t ts ≡ is_among term_cmp (term_of t) (terms_of ts)
is_term_among t ts = is_member-map term_of term_cmp t ts

pub value_found : (d : Five) (t : Term) → AreClosed d → known_value d t ≡ (is_some (as_object (normal d.kf t)) || is_among term_cmp (normal d.kf t) d.kv)
value_found d t c = closed_value c.by c.values d c.closed t

-- what is answered is so in two worlds of which the databases are true
pub known_so : (s : Signature) (d : Five) (l : Literal) (b : Bool) → b ≡ holds s d l → IsTrue b → (w w' : World) → IsTrueOf s w w' d → (true_in w l ≡ true) × (true_in w' l ≡ true)
known_so s d l b e t w w' m = answered_said w w' d m (record { asks = Know l; denied = false }) refl (sym e ∙ t)

pub value_so : (d : Five) (t : Term) (b : Bool) → b ≡ known_value d t → IsTrue b → (s : Signature) (w w' : World) → IsTrueOf s w w' d → value_of w t ≡ value_of w' t
value_so d t b e h s w w' m = answered_said w w' d m (record { asks = KnowValue t; denied = false }) refl (sym e ∙ h)

pub is_formula_among : (c : Conj) (cs : List Conj) → is_member (on conj_of conj_cmp) c cs ≡ is_among conj_cmp (conj_of c) (formulas_of cs)
is_formula_among c cs = is_member-map conj_of conj_cmp c cs

pub formula_found : (d : Five) (c : List Literal) → AreClosed d → is_whether d c ≡ is_among conj_cmp (normal_conj d.kf c) d.kw
formula_found d c h = closed_member h.by h.values d h.closed c

pub whether_so : (s : Signature) (d : Five) (c : List Literal) (b : Bool) → b ≡ known_whether s d c → IsTrue b → (w w' : World) → IsTrueOf s w w' d → all_true_in w c ≡ all_true_in w' c
whether_so s d c b e h w w' m = answered_said w w' d m (record { asks = KnowWhether c; denied = false }) refl (sym e ∙ h)

pub answer_so : (s : Signature) (d : Five) (q : Query) (b : Bool) → b ≡ answers s d q → IsTrue b → q.denied ≡ false → (w w' : World) → IsTrueOf s w w' d → IsSaidOf w w' q.asks
answer_so s d q b e h n w w' m = answered_said w w' d m q n (sym e ∙ h)
