-- The parts of a file.
use Rattle.std.proofs.Common.{◌≡◌, ◌∙◌, ◌≤◌, List, [], ◌∷◌, Option, Some, None, length, map, unwrap_or, refl, sym, ap, subst, arith}
use Rattle.pks_text.specs.Forms.{Form, list_of, forms_of}
use Rattle.pks_text.specs.FormViews.{form_view}
use Rattle.pks_text.specs.declared.tree.Form.{Form as CodeForm}
use Rattle.pks_reader_shape.specs.declared.grammar.Version.{Version}
use Rattle.pks_reader_shape.specs.declared.grammar.Version.TheVariants.{First}
use Rattle.pks_reader_shape.specs.declared.grammar.Sort.TheVariants.{Domain, Problem}
use Rattle.pks_reader_shape.specs.Language.{IsOf, IsFile}
use Rattle.pks_reader.specs.Files.{IsFileOf}

pub some_same : {X : Type 0} {x y : X} → Some x ≡ Some y → x ≡ y
some_same {X = X} {x = x} e = ap (λ (o : Option X). unwrap_or o x) e

-- the domain and the problem are of the version
pub of_version : (fs : List Form) (v : Version) (d p : Form) → IsFileOf fs v d p → IsOf v Domain d × IsOf v Problem p
of_version [] v d p f = absurd f.file
of_version (a ∷ []) v d p f = absurd f.file
of_version (a ∷ b ∷ []) v d p f = absurd f.file
of_version (a ∷ b ∷ c ∷ rest) v d p f =
    let own : Version = f.file.0 in
    let same : own ≡ v = sym (ap (λ (o : Option Version). elim o [ None ↦ First | Some w ↦ w ]) f.file.1) ∙ f.version in
    let domain : IsOf v Domain b = subst (λ (w : Version). IsOf w Domain b) same f.file.2 in
    let problem : IsOf v Problem c = subst (λ (w : Version). IsOf w Problem c) same f.file.3 in (
      subst (λ (g : Form). IsOf v Domain g) (some_same f.domain) domain,
      subst (λ (g : Form). IsOf v Problem g) (some_same f.problem) problem,
    )

-- one file has one version, one domain and one problem
pub record AreSame (v w : Version) (d e p q : Form) : Type 0 where
  pub version : v ≡ w
  pub domain : d ≡ e
  pub problem : p ≡ q

pub same_parts : (fs : List Form) (v w : Version) (d e p q : Form) → IsFileOf fs v d p → IsFileOf fs w e q → AreSame v w d e p q
same_parts fs v w d e p q f g = record { version = sym f.version ∙ g.version; domain = some_same (sym f.domain ∙ g.domain); problem = some_same (sym f.problem ∙ g.problem) }

-- ---- in memory

-- there are at least three forms
pub three_forms : (fs : List CodeForm) → IsFile (map form_view fs) → 3 ≤ length fs
three_forms [] f = absurd f
three_forms (a ∷ []) f = absurd f
three_forms (a ∷ b ∷ []) f = absurd f
three_forms (a ∷ b ∷ c ∷ rest) f = omega arith

pub listed : (fs : List Form) → list_of (forms_of fs) ≡ fs
listed [] = refl
listed (f ∷ fs) = ap (λ (gs : List Form). f ∷ gs) (listed fs)
