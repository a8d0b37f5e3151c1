use Rattle.std.proofs.Common.{rules, ◌≡◌, ◌++◌, ◌+◌, ◌∷◌, [], length, ◌<◌, ◌≤◌, drop, get_or, subst, sym, ◌∙◌, refl, append-nil, add-one, drop-cons, arith}
use Rattle.std.specs.Fn.{FnReturnsAt}
use Rattle.std.proofs.lemmas.Fn.{says_at}
use Rattle.std.proofs.lemmas.List.{drop_all}
use Rattle.pks_terms.specs.Sets.{Each}
use Rattle.pks_terms.specs.declared.literal.PredAtom.{PredAtom}
use Rattle.pks_pmap.specs.Keeping.{Keeps}
use Rattle.pks_pmap_set.specs.Members.{TakesAt}
use Rattle.pks_lcw.proofs.Kept.{keeps_yes, keeps_no}
use Rattle.pks_lcw.proofs.atoms.passing.Goals as goal
use Rattle.pks_lcw.proofs.atoms.passing.Goals.{then-test+in_ok-push, else-test}

-- what stands where a list has ended
abbrev nothing : PredAtom
nothing = record { pred = record { 0 = 0 }; n = 0; args = [] }

pub loop-a-preserved : goal.loop-a-preserved
loop-a-preserved g c =
    let within : c.loop-a.a-index < length c.args.atoms.now = search rules in
    let R = FnReturnsAt g.F.Fn c.args.test.now in
    let x : PredAtom = get_or c.args.atoms.now c.loop-a.a-index nothing in
    let here : drop c.loop-a.a-index c.args.atoms.now ≡ x ∷ drop (c.loop-a.a-index + 1) c.args.atoms.now = drop-cons c.args.atoms.now c.loop-a.a-index nothing within ∙ rw add-one refl in
    record {
      callable = (subst (λ xs. Each (TakesAt g.F.Fn c.args.test.now) xs) here c.loop-a.invariant.callable).1;
      kept = elim c.if-test.branch [
        | then-test+in_ok-push w ↦
            let more : w.push.new.self.items ≡ c.loop-a.kept.items ++ x ∷ [] = search rules in
            rw (w.kept-is, more) (keeps_yes R c.args.atoms.now c.loop-a.kept.items c.loop-a.a-index x here c.loop-a.invariant.kept (says_at g.F.Fn c.test.ensures w.if-test.true))
        | else-test w ↦
            rw w.kept-is (keeps_no R c.args.atoms.now c.loop-a.kept.items c.loop-a.a-index x here c.loop-a.invariant.kept (says_at g.F.Fn c.test.ensures w.if-test.false))
      ];
    }

pub returns : goal.returns
returns g c =
    let R = FnReturnsAt g.F.Fn c.args.test.now in
    let past : length c.args.atoms.now ≤ c.loop-a.a-index = omega arith in
    let none : drop c.loop-a.a-index c.args.atoms.now ≡ [] = drop_all _ _ past in
    let all = c.loop-a.invariant.kept [] (subst (λ xs. Keeps R xs []) (sym none) refl) in
    rw append-nil at all
