use Rattle.std.proofs.Common.{length, map, refl}
use Rattle.std.proofs.lemmas.Bool.{false≢true}
use Rattle.pks_terms.specs.Views.{problem_of}
use Rattle.pks_text.specs.Faults.{IsFirstFault, IsAnswered}
use Rattle.pks_text.specs.FormViews.{form_view}
use Rattle.pks_text.specs.declared.tree.FormFault.{FormFault}
use Rattle.pks_reader_problem.specs.Spans.{named_of}
use Rattle.pks_reader.specs.Files.{AreRefused, FormsState}
use Rattle.pks_reader.specs.Texts.{IsRefused, States}
use Rattle.pks_reader.proofs.Deciding.{HasNoFault, ok_as, err_as, states, refuses, stated_in, refused_in, text_refuses, text_not_stated, text_refused_once}
use Rattle.pks_reader.proofs.reading.read_problem.Goals as goal

pub returns-in-Ok : goal.returns-in-Ok
returns-in-Ok c =
    let text = c.args.source.now in
    let fs = map form_view c.in-Ok.read.top.items in
    let spelled = c.in-Ok.ensures.spelled in
    let none : HasNoFault text = λ fault is. (c.in-Ok.ensures.only fault is).1 refl in
    let r = c.problem_of.result in
    record {
      stated = ok_as (λ q. FormsState fs (problem_of q) (named_of q)) (λ q. States text (problem_of q) (named_of q)) r (λ q s. states text fs (problem_of q) (named_of q) spelled none s) c.problem_of.ensures.stated;
      valid = c.problem_of.ensures.valid;
      refused = err_as (AreRefused (length text) fs) (IsRefused text) r (λ f is. refuses text fs f spelled none is) c.problem_of.ensures.refused;
      only_stated = λ p n s. c.problem_of.ensures.only_stated p n (stated_in text fs p n spelled s);
      only_refused = λ f is. c.problem_of.ensures.only_refused f (refused_in text fs f spelled none is);
    }

pub returns-in-Err : goal.returns-in-Err
returns-in-Err c =
    let text = c.args.source.now in
    let fault = c.in-Err.fault in
    let e = c.text_refused.result in
    let is = c.in-Err.ensures.fault in
    let turns = c.text_refused.ensures.refused in
    let only : (first : FormFault) → IsFirstFault text first → IsAnswered first fault = λ first first_is. (c.in-Err.ensures.only first first_is).0 in
    record {
      stated = tt;
      valid = tt;
      refused = text_refuses text fault e is turns;
      only_stated = λ p n s. (tt, text_not_stated text fault e is turns p n s);
      only_refused = λ f refused. (λ ok. false≢true ok, text_refused_once text fault e is only turns f refused);
    }
