-- Databases as the first version has them.
use Rattle.std.specs.Prelude.{◌≡◌, true, []}
use Rattle.pks_terms.specs.Sets.{Each}
use Rattle.pks_terms.specs.Syntax.{Literal}
use Rattle.pks_terms.specs.Signatures.{Signature}
use Rattle.pks_terms.specs.Databases.{Entry, Five}
use Rattle.pks_terms.specs.Problems.{Problem}
use Rattle.pks_terms.specs.Settling.{History}
use Rattle.pks_terms.specs.Valid.{is_literal}
use Rattle.pks_terms.specs.Handed.{IsStepOf}
use Rattle.pks_terms.specs.Versions.{IsOneTyped}
use Rattle.pks_laws.specs.OneTyped.{HasOneTyped}

-- a ground literal of the signature, its sides of one type where it is an equation
abbrev pub IsFirstLiteral : Signature → Literal → Type 0
IsFirstLiteral s l = (is_literal s [] l ≡ true) × IsOneTyped s l

-- each listed atom of a region is of its predicate
abbrev pub ListsItsOwn : Entry → Type 0
ListsItsOwn e = Each (λ a. a.predicate ≡ e.pattern.predicate) e.listed

-- ground databases of the signature, their equations between terms of one type, their regions with atoms of their own predicate
pub record IsOfFirst (s : Signature) (d : Five) : Type 0 where
  pub typed : HasOneTyped s d
  pub regions : Each ListsItsOwn d.lcw

-- so at each moment, and each instance is one of the problem
pub record IsOfFirstAlong (p : Problem) (h : History) : Type 0 where
  pub start : IsOfFirst p.signature h.start
  pub steps : Each (λ step. IsStepOf p step.0 × IsOfFirst p.signature step.1) h.steps
