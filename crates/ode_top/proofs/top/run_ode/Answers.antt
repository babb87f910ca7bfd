use Rattle.std.proofs.Common.{◌≡◌, ◌∙◌, ◌≤◌, ⊎_elim, inl, inr, ℕ, List, Some, ap, subst, sym}
use Rattle.ode_host.specs.declared.status.Status.TheVariants as status
use Rattle.std.specs.declared.string.String.{String}
use Rattle.std.specs.declared.alloc.Global.{Global}
use Rattle.ode_begin.specs.Words.{bytes_of}
use Rattle.ode_top.specs.Calls.{call_of}
use Rattle.ode_top.specs.declared.call.Mode.{Mode}
use Rattle.ode_host.proofs.Calls.{rose_none}
use Rattle.ode_gen.specs.Generating.{gen_limit}
use Rattle.ode_questions.specs.declared.asked.Asked.{Asked}
use Rattle.ode_top.proofs.Asking.{asked_same, asked_within, questions_same}
use Rattle.ode_begin.proofs.Leaving.{line_idle, line_leaves}
use Rattle.ode_top.specs.Claims.{Generates, Questions}
use Rattle.ode_top.proofs.top.run_ode.Goals as goal

pub returns-in-None-clause-said : goal.returns-in-None-clause-said
returns-in-None-clause-said g c is text said = c.end_with.ensures.printed (λ (cut : c.end_with.result ≡ status.WriteFault). cc) text said

pub returns-in-None-clause-unused : goal.returns-in-None-clause-unused
returns-in-None-clause-unused g c none = line_idle status.Usage c.end_with.result _ _ _ c.end_with.ensures.status c.end_with.ensures.prints c.end_with.ensures.cause (λ loud. loud)

pub returns-in-None-clause-leaves : goal.returns-in-None-clause-leaves
returns-in-None-clause-leaves g c = line_leaves status.Usage c.end_with.result _ _ _ c.end_with.ensures.status c.end_with.ensures.prints c.end_with.ensures.cause (λ is. cc (is))

pub returns-in-None-clause-reads : goal.returns-in-None-clause-reads
returns-in-None-clause-reads g c = rose_none _ _ (λ is. ⊎_elim (λ same. cc (same, is)) (λ cut. cc (cut, is)) c.end_with.ensures.status)

pub returns-in-Run-clause-unread : goal.returns-in-Run-clause-unread
returns-in-Run-clause-unread g c unread =
    let file = c.in-Some.call.file.now in
    let words = rw c.in-Some.is at c.call_of.ensures in
    absurd (unread (inl (file, ap (λ (l : List (String Global)). call_of (bytes_of l)) (sym c.deref.ensures.value) ∙ sym words ∙ ap (λ (m : Mode). Some (m, file)) c.in-Run.is)))

pub returns-in-Ask-clause-unread : goal.returns-in-Ask-clause-unread
returns-in-Ask-clause-unread g c unread =
    let file = c.in-Some.call.file.now in
    let words = rw c.in-Some.is at c.call_of.ensures in
    absurd (unread (inr (inr (inr (c.in-Ask.asked, (file, ap (λ (l : List (String Global)). call_of (bytes_of l)) (sym c.deref.ensures.value) ∙ sym words ∙ ap (λ (m : Mode). Some (m, file)) c.in-Ask.is))))))

pub returns-in-Ship-clause-unread : goal.returns-in-Ship-clause-unread
returns-in-Ship-clause-unread g c unread =
    let file = c.in-Some.call.file.now in
    let words = rw c.in-Some.is at c.call_of.ensures in
    absurd (unread (inr (inl (file, ap (λ (l : List (String Global)). call_of (bytes_of l)) (sym c.deref.ensures.value) ∙ sym words ∙ ap (λ (m : Mode). Some (m, file)) c.in-Ship.is))))

pub returns-in-Follow-clause-unread : goal.returns-in-Follow-clause-unread
returns-in-Follow-clause-unread g c unread =
    let file = c.in-Some.call.file.now in
    let words = rw c.in-Some.is at c.call_of.ensures in
    absurd (unread (inr (inr (inl (file, ap (λ (l : List (String Global)). call_of (bytes_of l)) (sym c.deref.ensures.value) ∙ sym words ∙ ap (λ (m : Mode). Some (m, file)) c.in-Follow.is)))))

-- the questions were read from the words
pub returns-in-Ask-clause-questions : goal.returns-in-Ask-clause-questions
returns-in-Ask-clause-questions g c asked asks =
    let file = c.in-Some.call.file.now in
    let words = rw c.in-Some.is at c.call_of.ensures in
    let is = ap (λ (l : List (String Global)). call_of (bytes_of l)) (sym c.deref.ensures.value) ∙ sym words ∙ ap (λ (m : Mode). Some (m, file)) c.in-Ask.is in
    let same : c.in-Ask.asked ≡ asked = questions_same (bytes_of c.args.words.now.items) c.in-Ask.asked asked file is asks in
    subst (λ (a : Asked). Questions a (g.S.Source.left c.args.script.now) (g.S.Source.left c.ask.new.script) (g.H.Host.view c.args.host.now) (g.H.Host.view c.ask.new.host) c.ask.result) same c.ask.ensures.world

pub returns-in-Ask-clause-unasked : goal.returns-in-Ask-clause-unasked
returns-in-Ask-clause-unasked g c asked asks = c.ask.ensures.no_world

-- the number was read from the words
pub returns-in-Gen-clause-generated : goal.returns-in-Gen-clause-generated
returns-in-Gen-clause-generated g c number asks =
    let file = c.in-Some.call.file.now in
    let words = rw c.in-Some.is at c.call_of.ensures in
    let is = ap (λ (l : List (String Global)). call_of (bytes_of l)) (sym c.deref.ensures.value) ∙ sym words ∙ ap (λ (m : Mode). Some (m, file)) c.in-Gen.is in
    let same : c.in-Gen.number ≡ number = asked_same (bytes_of c.args.words.now.items) c.in-Gen.number number file is asks in
    subst (λ (n : ℕ). Generates n (g.H.Host.view c.args.host.now) (g.H.Host.view c.generate.new.host) c.generate.result) same
    (c.generate.ensures.world (subst (λ (n : ℕ). n ≤ gen_limit) (sym same) (asked_within (bytes_of c.args.words.now.items) number asks)))

pub returns-in-Gen-clause-gen_no_world : goal.returns-in-Gen-clause-gen_no_world
returns-in-Gen-clause-gen_no_world g c number asks = c.generate.ensures.no_world (g.S.Source.left c.args.script.now)

pub returns-in-Gen-clause-reads : goal.returns-in-Gen-clause-reads
returns-in-Gen-clause-reads g c = rose_none _ _ c.generate.ensures.not_read
