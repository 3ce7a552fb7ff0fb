-- The steps of a server, one after the other.
use Rattle.std.proofs.Common.{◌≡◌, ◌⊎◌, ℕ, Bool, true, false, List, [], ◌++◌, Option, None, Some, refl, sym, ap, ◌∙◌, append-nil, subst, inl, inr}
use Rattle.std.specs.Io.KnownBytes.{Appends, Consumes, Keeps, IsAtEnd}
use Rattle.std.proofs.KnownBytes.{Consumes-nil, Consumes-trans, Appends-nil, Appends-trans, Appends-kept}
use Rattle.serde_json.specs.Data.{Data}
use Rattle.ti_lsp_frames.specs.Reading.{TakesMessage, AtEnd}
use Rattle.ti_lsp.specs.declared.diagnostic.Diagnostic.{Diagnostic}
use Rattle.ti_lsp.specs.declared.session.Phase.TheVariants.{Exited, Aborted}
use Rattle.ti_lsp.specs.Handling.{State, Documents}
use Rattle.ti_lsp_serve.specs.Serving.{AnswersContent, Sends, ServesMessage, Serves, begun, answered, silent, HasServed, Ends, initial}

pub stepped : (rejects : List ℕ → Diagnostic → Type 0) (before after : Documents) (s t : State) (a b c d : Option (List ℕ)) (content : List ℕ) (sent : Option Data)
    → TakesMessage a b content → AnswersContent rejects before s content t after sent → Sends c d sent → ServesMessage rejects before s a b c d t after
stepped rejects before after s t a b c d content sent taken answers sends =
    record { content = content; taken = taken; sent = sent; answers = answers; sends = sends }

pub nothing_served : (rejects : List ℕ → Diagnostic → Type 0) (a c : Option (List ℕ)) (before : Documents) (s : State) → ((uri : List ℕ) → before uri ≡ None)
    → s ≡ initial → HasServed rejects a a c c before s
nothing_served rejects a c before s empty new = record {
  before = before;
  empty = empty;
  xs = [];
  ys = [];
  serves = subst (Serves rejects before initial [] [] before) (sym new) begun;
  taken = Consumes-nil a;
  written = Appends-nil c;
}

pub go_on : (rejects : List ℕ → Diagnostic → Type 0) (a b c d e f : Option (List ℕ)) (mid after : Documents) (t u : State) → HasServed rejects a b d e mid t
    → ServesMessage rejects mid t b c e f u after → HasServed rejects a c d f after u
go_on rejects a b c d e f mid after t u r step = by step.sent step.answers step.sends
  where
    by : (one : Option Data) → AnswersContent rejects mid t step.content u after one → Sends e f one → HasServed rejects a c d f after u
    by None answers kept = record {
      before = r.before;
      empty = r.empty;
      xs = r.xs ++ step.taken.message;
      ys = r.ys;
      serves = silent r.serves step.taken.is_message answers;
      taken = Consumes-trans a b c r.xs step.taken.message r.taken step.taken.taken;
      written = Appends-kept d e f r.ys r.written kept;
    }
    by (Some value) answers sent = record {
      before = r.before;
      empty = r.empty;
      xs = r.xs ++ step.taken.message;
      ys = r.ys ++ sent.bytes;
      serves = answered r.serves step.taken.is_message answers sent.is_sent;
      taken = Consumes-trans a b c r.xs step.taken.message r.taken step.taken.taken;
      written = Appends-trans d e f r.ys sent.bytes r.written sent.wrote;
    }

pub ends_asked : (rejects : List ℕ → Diagnostic → Type 0) (a b d e : Option (List ℕ)) (after : Documents) (t : State) → HasServed rejects a b d e after t
    → t.phase ≡ Exited → Ends rejects a b d e true
ends_asked rejects a b d e after t r is = record { after = after; state = t; served = r; asked_first = λ _. is; not_asked = λ e. absurd (cc) }

pub ends_aborted : (rejects : List ℕ → Diagnostic → Type 0) (a b d e : Option (List ℕ)) (after : Documents) (t : State) → HasServed rejects a b d e after t
    → t.phase ≡ Aborted → Ends rejects a b d e false
ends_aborted rejects a b d e after t r is = record { after = after; state = t; served = r; asked_first = λ e. absurd (cc); not_asked = λ _. inl is }

pub ends_over : (rejects : List ℕ → Diagnostic → Type 0) (a b c d e f : Option (List ℕ)) (after : Documents) (t : State) → HasServed rejects a b d e after t
    → AtEnd b c → f ≡ e → Ends rejects a c d f false
ends_over rejects a b c d e f after t r over same = record {
  after = after;
  state = t;
  served = record {
    before = r.before;
    empty = r.empty;
    xs = r.xs ++ [];
    ys = r.ys;
    serves = subst (λ (xs : List ℕ). Serves rejects r.before initial xs r.ys after t) (sym (append-nil r.xs)) r.serves;
    taken = Consumes-trans a b c r.xs [] r.taken over.0;
    written = subst (λ (o : Option (List ℕ)). Appends d o r.ys) (sym same) r.written;
  };
  asked_first = λ e. absurd (cc);
  not_asked = λ _. inr over.1;
}
