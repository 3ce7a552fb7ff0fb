-- Fixes that are offered, what requests return, and changes that are made.
use Rattle.std.proofs.Common.{◌≡◌, ◌<◌, ◌+◌, ◌++◌, ◌∷◌, [], ℕ, ℤ, Bool, true, false, List, Option, None, Some, string_bytes, refl, sym, ap, ◌∙◌, subst, inl, inr, IsUtf8, All, length, map, take, get_or}
use Rattle.std.proofs.lemmas.List.{take_more, map-append}
use Rattle.serde_json.specs.Data.{Data, null, array}
use Rattle.serde_json.specs.View.{items_of, view}
use Rattle.serde_json.specs.declared.value.Value.{Value}
use Rattle.ti_lsp.specs.declared.client.Client.{Client}
use Rattle.ti_lsp.specs.declared.diagnostic.Diagnostic.{Diagnostic}
use Rattle.ti_lsp.specs.declared.document.Document.{Document}
use Rattle.ti_lsp.specs.declared.message.ActionFilter.{ActionFilter}
use Rattle.ti_lsp.specs.declared.message.ActionKind.{ActionKind}
use Rattle.ti_lsp.specs.declared.position.PositionEncoding.{PositionEncoding}
use Rattle.ti_lsp.specs.declared.suggestion.Suggestion.{Suggestion}
use Rattle.ti_lsp.specs.declared.symbol.Symbol.{Symbol}
use Rattle.ti_lsp.specs.Actions.{action_data, kind_for}
use Rattle.ti_lsp.specs.Analysis.{HasNoDiagnostic, IsAnalysis, IsFix, IsWholeFix, is_enough}
use Rattle.ti_lsp.specs.Edits.{edited}
use Rattle.ti_lsp.specs.Handling.{State, Documents, Changes, Publishes, Lists, Offers, OffersEach, OffersFor, OffersOne, Returns, changed_text}
use Rattle.ti_lsp.specs.Handling.OffersEach.{no_suggestion, offered, not_offered}
use Rattle.ti_lsp.specs.Messages.{ChangeView}
use Rattle.ti_lsp.specs.Responses.{success_of}
use Rattle.ti_lsp.specs.Symbols.{IsSymbolOf, symbols_of}

-- ---- fixes

pub no_edit : (text fixed : List ℕ) (s : Suggestion) → edited 0 s.edits.items text ≡ None → edited 0 s.edits.items text ≡ Some fixed → IsUtf8 fixed → ⊥
no_edit text fixed s none some is = let h : None ≡ Some fixed = sym none ∙ some in absurd (cc)

pub not_utf8 : (text fixed these : List ℕ) (s : Suggestion) → edited 0 s.edits.items text ≡ Some these → (IsUtf8 these → ⊥)
    → edited 0 s.edits.items text ≡ Some fixed → IsUtf8 fixed → ⊥
not_utf8 text fixed these s is other some utf8 =
    let h : Some fixed ≡ Some these = sym some ∙ is in
    let e : fixed ≡ these = cc in other (subst IsUtf8 e utf8)

pub fixes : (rejects : List ℕ → Diagnostic → Type 0) (text fixed : List ℕ) (d : Diagnostic) (s : Suggestion) (later : Option Diagnostic)
    → edited 0 s.edits.items text ≡ Some fixed → IsUtf8 fixed → IsAnalysis (rejects fixed) later → is_enough s.is_automatic d later ≡ true
    → IsFix rejects text d s
fixes rejects text fixed d s later applied is analyzed enough =
    record { fixed = fixed; later = later; applied = applied; is_text = is; analyzed = analyzed; enough = enough }

pub not_applied : (rejects : List ℕ → Diagnostic → Type 0) (text : List ℕ) (s : Suggestion)
    → ((fixed : List ℕ) → edited 0 s.edits.items text ≡ Some fixed → IsUtf8 fixed → ⊥) → IsWholeFix rejects text s → ⊥
not_applied rejects text s none is = none is.fixed is.applied is.is_text

pub not_enough : (rejects : List ℕ → Diagnostic → Type 0) (text these : List ℕ) (d : Diagnostic) (s : Suggestion) (later : Option Diagnostic)
    → edited 0 s.edits.items text ≡ Some these → IsAnalysis (rejects these) later → is_enough s.is_automatic d later ≡ false → IsWholeFix rejects text s → ⊥
not_enough rejects text these d s later applied analyzed not is = found later analyzed not
  where
    same : is.fixed ≡ these
    same = let h : Some is.fixed ≡ Some these = sym is.applied ∙ applied in cc

    accepted : HasNoDiagnostic (rejects these)
    accepted = subst (λ (t : List ℕ). HasNoDiagnostic (rejects t)) same is.accepted

    always : (b : Bool) → is_enough b d None ≡ true
    always true = refl
    always false = refl

    found : (o : Option Diagnostic) → IsAnalysis (rejects these) o → is_enough s.is_automatic d o ≡ false → ⊥
    found None analyzed not = let h : true ≡ false = sym (always s.is_automatic) ∙ not in absurd (cc)
    found (Some e) analyzed not = accepted e analyzed

-- ---- code actions

pub offers_one : (rejects : List ℕ → Diagnostic → Type 0) (client : Client) (uri : List ℕ) (filter : ActionFilter) (text : List ℕ) (d : Diagnostic)
    (s : Suggestion) (kind : ActionKind) (action : Data) → kind_for client.encoding text d s filter ≡ Some kind → IsFix rejects text d s
    → action ≡ action_data client uri text d s kind → OffersOne rejects client uri filter text d s (Some action)
offers_one rejects client uri filter text d s kind action wanted is same = record { kind = kind; wanted = wanted; is_fix = is; action_is = same }

pub not_wanted : (rejects : List ℕ → Diagnostic → Type 0) (client : Client) (uri : List ℕ) (filter : ActionFilter) (text : List ℕ) (d : Diagnostic)
    (s : Suggestion) → kind_for client.encoding text d s filter ≡ None → OffersOne rejects client uri filter text d s None
not_wanted rejects client uri filter text d s none = inl none

pub no_fix : (rejects : List ℕ → Diagnostic → Type 0) (client : Client) (uri : List ℕ) (filter : ActionFilter) (text : List ℕ) (d : Diagnostic)
    (s : Suggestion) → (IsWholeFix rejects text s → ⊥) → OffersOne rejects client uri filter text d s None
no_fix rejects client uri filter text d s none = inr none

pub none_offered : (rejects : List ℕ → Diagnostic → Type 0) (client : Client) (uri : List ℕ) (filter : ActionFilter) (text : List ℕ) (d : Diagnostic)
    → OffersEach rejects client uri filter text d [] []
none_offered rejects client uri filter text d = no_suggestion

pub one_offered : (rejects : List ℕ → Diagnostic → Type 0) (client : Client) (uri : List ℕ) (filter : ActionFilter) (text : List ℕ) (d : Diagnostic)
    (ss : List Suggestion) (i : ℕ) (s : Suggestion) (actions : List Value) (action : Value) (longer : List Value) → i < length ss → s ≡ get_or ss i s
    → OffersEach rejects client uri filter text d (take i ss) (map view actions) → OffersOne rejects client uri filter text d s (Some (view action))
    → longer ≡ actions ++ action ∷ [] → OffersEach rejects client uri filter text d (take (i + 1) ss) (map view longer)
one_offered rejects client uri filter text d ss i s actions action longer below is so_far one long =
    subst (λ (l : List Suggestion). OffersEach rejects client uri filter text d l (map view longer)) first
    (subst (λ (l : List Data). OffersEach rejects client uri filter text d (take i ss ++ s ∷ []) l) (sym (ap (map view) long ∙ map-append view actions (action ∷ [])))
    (offered so_far one))
  where
    first : take i ss ++ s ∷ [] ≡ take (i + 1) ss
    first = ap (λ (x : Suggestion). take i ss ++ x ∷ []) is ∙ sym (take_more ss i s below)

pub one_not_offered : (rejects : List ℕ → Diagnostic → Type 0) (client : Client) (uri : List ℕ) (filter : ActionFilter) (text : List ℕ) (d : Diagnostic)
    (ss : List Suggestion) (i : ℕ) (s : Suggestion) (actions : List Data) → i < length ss → s ≡ get_or ss i s
    → OffersEach rejects client uri filter text d (take i ss) actions → OffersOne rejects client uri filter text d s None
    → OffersEach rejects client uri filter text d (take (i + 1) ss) actions
one_not_offered rejects client uri filter text d ss i s actions below is so_far one =
    subst (λ (l : List Suggestion). OffersEach rejects client uri filter text d l actions) first (not_offered so_far one)
  where
    first : take i ss ++ s ∷ [] ≡ take (i + 1) ss
    first = ap (λ (x : Suggestion). take i ss ++ x ∷ []) is ∙ sym (take_more ss i s below)

pub offers_all : (rejects : List ℕ → Diagnostic → Type 0) (client : Client) (uri : List ℕ) (filter : ActionFilter) (document : Option Document)
    (opened : Document) (d : Diagnostic) (actions : List Data) (outcome : Data) → document ≡ Some opened → opened.diagnostic ≡ Some d
    → OffersEach rejects client uri filter (string_bytes opened.text) d opened.suggestions.items actions → outcome ≡ array (items_of actions)
    → Offers rejects client uri filter document outcome
offers_all rejects client uri filter document opened d actions outcome is found offers same =
    subst (λ (o : Option Document). Offers rejects client uri filter o outcome) (sym is)
    (subst (λ (o : Option Diagnostic). OffersFor rejects client uri filter opened o outcome) (sym found)
    (record { actions = actions; offers = offers; outcome_is = same }))

pub offers_nothing : (rejects : List ℕ → Diagnostic → Type 0) (client : Client) (uri : List ℕ) (filter : ActionFilter) (document : Option Document)
    (opened : Document) (outcome : Data) → document ≡ Some opened → opened.diagnostic ≡ None → outcome ≡ null
    → Offers rejects client uri filter document outcome
offers_nothing rejects client uri filter document opened outcome is found same =
    subst (λ (o : Option Document). Offers rejects client uri filter o outcome) (sym is)
    (subst (λ (o : Option Diagnostic). OffersFor rejects client uri filter opened o outcome) (sym found) same)

-- ---- requests

pub returns_such : (id : Data) (old new : State) (outcome sent : Data) (fits : Data → Type 0) → new ≡ old → sent ≡ success_of id outcome → fits outcome
    → Returns id old new sent fits
returns_such id old new outcome sent fits same is such = record { outcome = outcome; same = same; sent_is = is; is_such = such }

-- ---- symbols

pub lists : (encoding : PositionEncoding) (uri : List ℕ) (document : Option Document) (opened : Document) (symbols : List Symbol) (outcome : Data)
    → document ≡ Some opened → All (IsSymbolOf (string_bytes opened.text)) symbols → outcome ≡ symbols_of encoding uri (string_bytes opened.text) symbols
    → Lists encoding uri document outcome
lists encoding uri document opened symbols outcome is are same =
    subst (λ (o : Option Document). Lists encoding uri o outcome) (sym is) (record { symbols = symbols; are_symbols = are; outcome_is = same })

-- ---- changes

pub no_change : (encoding : PositionEncoding) (version : Option ℤ) (changes : List ChangeView) (document : Option Document) (text : List ℕ)
    → changed_text encoding version changes document ≡ None → changed_text encoding version changes document ≡ Some text → IsUtf8 text → ⊥
no_change encoding version changes document text none some is = let h : None ≡ Some text = sym none ∙ some in absurd (cc)

pub no_text : (encoding : PositionEncoding) (version : Option ℤ) (changes : List ChangeView) (document : Option Document) (text these : List ℕ)
    → changed_text encoding version changes document ≡ Some these → (IsUtf8 these → ⊥) → changed_text encoding version changes document ≡ Some text → IsUtf8 text → ⊥
no_text encoding version changes document text these is other some utf8 =
    let h : Some text ≡ Some these = sym some ∙ is in
    let e : text ≡ these = cc in other (subst IsUtf8 e utf8)

pub changes : (rejects : List ℕ → Diagnostic → Type 0) (client : Client) (uri : List ℕ) (version : Option ℤ) (list : List ChangeView)
    (before after : Documents) (sent : Option Data) (text : List ℕ) → changed_text client.encoding version list (before uri) ≡ Some text
    → Publishes rejects client uri version text before after sent → Changes rejects client uri version list before after sent
changes rejects client uri version list before after sent text is publishes = inl (record { text = text; text_is = is; publishes = publishes })

pub refuses_change : (rejects : List ℕ → Diagnostic → Type 0) (client : Client) (uri : List ℕ) (version : Option ℤ) (list : List ChangeView)
    (before after : Documents) → ((text : List ℕ) → changed_text client.encoding version list (before uri) ≡ Some text → IsUtf8 text → ⊥) → after ≡ before
    → Changes rejects client uri version list before after None
refuses_change rejects client uri version list before after none kept = inr (record { no_text = none; kept = kept; silent = refl })
