-- What is shown of the name at a position, and the hover at a position.
use Rattle.std.proofs.Common.{◌≡◌, ℕ, Bool, true, false, List, Option, None, Some, string_bytes, sym, subst, inl, inr}
use Rattle.serde_json.specs.Data.{Data, null}
use Rattle.ti_lsp.specs.declared.diagnostic.Diagnostic.{Diagnostic}
use Rattle.ti_lsp.specs.declared.document.Document.{Document}
use Rattle.ti_lsp.specs.declared.name.KnownName.{KnownName}
use Rattle.ti_lsp.specs.declared.position.Position.{Position}
use Rattle.ti_lsp.specs.declared.position.PositionEncoding.{PositionEncoding}
use Rattle.ti_lsp.specs.Diagnostics.{diagnostic_hover, diagnostic_range}
use Rattle.ti_lsp.specs.Handling.{Hovers, HoversIn, HoversNear, Locates, ShowsKnown}
use Rattle.ti_lsp.specs.Names.{IsKnownAt, declaration_data, name_hover}
use Rattle.ti_lsp.specs.Positions.{offset_of, touches}

pub shows_hover : (encoding : PositionEncoding) (text : List ℕ) (at : Position) (name : KnownName) (outcome : Data)
    → IsKnownAt text (offset_of encoding at text) name → outcome ≡ name_hover encoding text name
    → ShowsKnown encoding text at (name_hover encoding text) outcome
shows_hover encoding text at name outcome known same = inr (record { name = name; is_known = known; outcome_is = same })

pub shows_location : (encoding : PositionEncoding) (uri text : List ℕ) (at : Position) (name : KnownName) (outcome : Data)
    → IsKnownAt text (offset_of encoding at text) name → outcome ≡ declaration_data encoding uri text name
    → ShowsKnown encoding text at (declaration_data encoding uri text) outcome
shows_location encoding uri text at name outcome known same = inr (record { name = name; is_known = known; outcome_is = same })

pub shows_nothing : (encoding : PositionEncoding) (text : List ℕ) (at : Position) (shown : KnownName → Data) (outcome : Data) → outcome ≡ null
    → ShowsKnown encoding text at shown outcome
shows_nothing encoding text at shown outcome none = inl none

pub hovers_name : (encoding : PositionEncoding) (document : Option Document) (opened : Document) (at : Position) (outcome : Data)
    → document ≡ Some opened → opened.diagnostic ≡ None
    → ShowsKnown encoding (string_bytes opened.text) at (name_hover encoding (string_bytes opened.text)) outcome → Hovers encoding document at outcome
hovers_name encoding document opened at outcome is none shows =
    subst (λ (o : Option Document). Hovers encoding o at outcome) (sym is)
    (subst (λ (o : Option Diagnostic). HoversIn encoding (string_bytes opened.text) o at outcome) (sym none) shows)

-- the hover at a position that is at the error or not
near : (encoding : PositionEncoding) (document : Option Document) (opened : Document) (d : Diagnostic) (at : Position) (outcome : Data) (b : Bool)
    → document ≡ Some opened → opened.diagnostic ≡ Some d → touches (diagnostic_range encoding (string_bytes opened.text) d) at ≡ b
    → HoversNear b encoding (string_bytes opened.text) d at outcome → Hovers encoding document at outcome
near encoding document opened d at outcome b is found touched shows =
    subst (λ (o : Option Document). Hovers encoding o at outcome) (sym is)
    (subst (λ (o : Option Diagnostic). HoversIn encoding (string_bytes opened.text) o at outcome) (sym found)
    (subst (λ (t : Bool). HoversNear t encoding (string_bytes opened.text) d at outcome) (sym touched) shows))

pub hovers_error : (encoding : PositionEncoding) (document : Option Document) (opened : Document) (d : Diagnostic) (at : Position) (outcome : Data)
    → document ≡ Some opened → opened.diagnostic ≡ Some d → touches (diagnostic_range encoding (string_bytes opened.text) d) at ≡ true
    → outcome ≡ diagnostic_hover encoding (string_bytes opened.text) d → Hovers encoding document at outcome
hovers_error encoding document opened d at outcome is found touched same = near encoding document opened d at outcome true is found touched same

pub hovers_beside : (encoding : PositionEncoding) (document : Option Document) (opened : Document) (d : Diagnostic) (at : Position) (outcome : Data)
    → document ≡ Some opened → opened.diagnostic ≡ Some d → touches (diagnostic_range encoding (string_bytes opened.text) d) at ≡ false
    → ShowsKnown encoding (string_bytes opened.text) at (name_hover encoding (string_bytes opened.text)) outcome → Hovers encoding document at outcome
hovers_beside encoding document opened d at outcome is found touched shows = near encoding document opened d at outcome false is found touched shows

pub locates : (encoding : PositionEncoding) (uri : List ℕ) (document : Option Document) (opened : Document) (at : Position) (outcome : Data)
    → document ≡ Some opened
    → ShowsKnown encoding (string_bytes opened.text) at (declaration_data encoding uri (string_bytes opened.text)) outcome
    → Locates encoding uri document at outcome
locates encoding uri document opened at outcome is shows = subst (λ (o : Option Document). Locates encoding uri o at outcome) (sym is) shows
