use Rattle.std.proofs.Common.{◌≡◌, ℕ, List, Some, None, IfOk, IfErr, sym, subst}
use Rattle.std.proofs.lemmas.Bool.{false≢true}
use Rattle.pks_text.specs.FormViews.{forms_view}
use Rattle.pks_reader.specs.Texts.{Reads, States, IsRefused}
use Rattle.pks_reader_shape.specs.Refusals.{Turns}
use Rattle.pks_reader.specs.Inputs.{first_high}
use Rattle.pks_reader.proofs.Lows.{low_is_text}
use Rattle.pks_reader.proofs.Answered.{high_faulty, high_unread, high_only, reads, text_faulty, only_read, only_faulty}
use Rattle.pks_reader.proofs.Declaring.{whole}
use Rattle.pks_reader.proofs.input.read_file.Goals as goal

pub unreachable-requires : goal.unreachable-requires
unreachable-requires c = c.in-Err.ensures.cases.0 (low_is_text c.args.input.now (sym c.in-None.ensures))

pub returns-in-Some : goal.returns-in-Some
returns-in-Some c =
    let input = c.args.input.now in
    let at = c.in-Some.at in
    let high : first_high input ≡ Some at = sym c.in-Some.ensures in
    record {
      reads = tt;
      source = tt;
      whole = tt;
      faulty = high_faulty input at c.high_refusal.result c.requires high c.high_refusal.ensures;
      only_read = λ f read. absurd (high_unread input at f high read);
      only_faulty = λ f is. (λ ok. false≢true ok, high_only input at c.high_refusal.result c.requires high c.high_refusal.ensures f is);
    }

pub returns-in-Ok : goal.returns-in-Ok
returns-in-Ok c =
    let input = c.args.input.now in
    let r = c.read_text.result in
    let short = c.requires in
    let low : first_high input ≡ None = sym c.in-None.ensures in
    let same : c.in-Ok.source.now ≡ input = c.in-Ok.ensures.cases.0 in
    let source : IfOk r (λ f. f.source.now ≡ input) = subst (λ (text : List ℕ). IfOk r (λ f. f.source.now ≡ text)) same c.read_text.ensures.source in
    let text : IfOk r (λ f. Reads input (forms_view f.forms.top.items)) = subst (λ (text : List ℕ). IfOk r (λ f. Reads text (forms_view f.forms.top.items))) same c.read_text.ensures.text in
    let refused : IfErr r (Turns (IsRefused input)) = subst (λ (text : List ℕ). IfErr r (Turns (IsRefused text))) same c.read_text.ensures.refused in
    let read = reads input short low r source text c.read_text.ensures.states in
    record {
      reads = read;
      source = source;
      whole = whole input r short source c.read_text.ensures.states c.read_text.ensures.valid;
      faulty = text_faulty input short low r refused;
      only_read = only_read input short low r read (λ p n s. c.read_text.ensures.only_stated p n (subst (λ (text : List ℕ). States text p n) (sym same) s));
      only_faulty = only_faulty input short low r (λ f is. c.read_text.ensures.only_refused f (subst (λ (text : List ℕ). IsRefused text f) (sym same) is));
    }
