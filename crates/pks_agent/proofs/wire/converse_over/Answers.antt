use Rattle.std.proofs.Common.{rules, ◌≡◌, ◌≤◌, List, Option, Some, None, Result, length, subst, IfSome}
use Rattle.pks_terms.specs.Printed.{Text}
use Rattle.pks_terms.specs.Talk.{Talked, talk}
use Rattle.pks_terms.specs.Views.{signature_of, names_of}
use Rattle.pks_plan.specs.TreeViews.{tree_of}
use Rattle.pks_exec.specs.declared.runs.End.{End}
use Rattle.pks_agent.specs.Leading.{Led}
use Rattle.pks_agent.specs.Streams.{ahead_of, coming, answers_coming}
use Rattle.pks_agent.specs.declared.ahead.ReadAhead.{ReadAhead}
use Rattle.pks_agent.specs.declared.ends.TalkEnd.{TalkEnd}
use Rattle.pks_agent.proofs.wire.converse_over.Goals as goal

some_kept : (o : Option (List Text)) (P : ReadAhead → List Text → Type 0) (kept : ReadAhead) → length (ahead_of kept) ≤ 512 → IfSome o (P kept) → IfSome o (λ answers. (x : ReadAhead) × (length (ahead_of x) ≤ 512) × P x answers)
some_kept None P kept few h = tt
some_kept (Some answers) P kept few h = (kept, few, h)

-- led from what was read ahead and a source to a sink, as these are left
abbrev LedBy : {S K : Type 0} → (S → Option Text) → (K → Option Text) → Result End TalkEnd → (List Text → Talked) → ReadAhead → S → K → S → K → Type 0
LedBy left written result talked a s k s' k' =
    IfSome (answers_coming (coming a (left s))) (λ answers. (x : ReadAhead) × (length (ahead_of x) ≤ 512) × Led (written k) (written k') answers (answers_coming (coming x (left s'))) result (talked answers))

-- what a wire holds is what it was given, and what it leaves
led_over : {S K : Type 0} (left : S → Option Text) (written : K → Option Text) (result : Result End TalkEnd) (talked : List Text → Talked) (a a' kept : ReadAhead) (s s' after after' : S) (k k' end end' : K)
    → a' ≡ a → s' ≡ s → k' ≡ k → after' ≡ after → end' ≡ end → length (ahead_of kept) ≤ 512
    → IfSome (answers_coming (coming a' (left s'))) (λ answers. Led (written k') (written end') answers (answers_coming (coming kept (left after'))) result (talked answers))
    → LedBy left written result talked a s k after end
led_over left written result talked a a' kept s s' after after' k k' end end' e₁ e₂ e₃ e₄ e₅ few led =
    subst (λ z. LedBy left written result talked a s k after z) e₅
    (subst (λ z. LedBy left written result talked a s k z end') e₄
    (subst (λ z. LedBy left written result talked a s z after' end') e₃
    (subst (λ z. LedBy left written result talked a z k' after' end') e₂
    (subst (λ z. LedBy left written result talked z s' k' after' end') e₁
    (some_kept (answers_coming (coming a' (left s'))) (λ x answers. Led (written k') (written end') answers (answers_coming (coming x (left after'))) result (talked answers)) kept few led)))))

pub returns-clause-led : goal.returns-clause-led
returns-clause-led g c =
    led_over g.S.Source.left g.K.Sink.written c.converse_on.result (λ answers. talk (signature_of c.args.p.now.signature) (names_of c.args.p.now) (tree_of c.args.t.now) answers)
    c.args.ahead c.over-wire.result.ahead c.converse_on.new.wire.ahead c.args.source.now c.over-wire.result.source.now _ c.converse_on.new.wire.source.now
    c.args.sink.now c.over-wire.result.sink.now _ c.converse_on.new.wire.sink.now
    c.over-wire.ensures.ahead c.over-wire.ensures.source c.over-wire.ensures.sink (search rules) (search rules) c.converse_on.ensures.few c.converse_on.ensures.led
