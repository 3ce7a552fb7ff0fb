use Rattle.std.proofs.Common.{◌≡◌, ◌∙◌, ap, length, slice_get, false}
use Rattle.std.specs.Map.{lookup}
use Rattle.std.specs.Option.{unwrap_or}
use Rattle.std.specs.Str.{bytes_eq}
use Rattle.ti_syntax.specs.Trees.Text.{tree_of}
use Rattle.ti_lang.specs.Members.{names_of}
use Rattle.ti_names.specs.Mirrors.Tables.{lookup_in, with_indices, static_table}
use Rattle.ti_names.proofs.TableLookups.{class_told, field_told, method_told, static_told, name_told}
use Rattle.ti_names.proofs.tables.Tables.of.Goals as goal

pub invariant_of-result : goal.invariant_of-result
invariant_of-result c =
    let text = tree_of c.args.tree.now in
    let names : c.args.names ≡ with_indices 0 (names_of text) = c.requires.names ∙ ap (with_indices 0) c.requires.spelled in
    let unknown : c.in_ok-unknown.unknown ≡ length (names_of text) = c.in_ok-unknown.ensures ∙ ap length c.requires.spelled in
    record {
      classes_told = λ name. ap (lookup (bytes_eq name)) c.in_ok-classes.ensures.classes ∙ class_told text name;
      fields_told = λ class name. ap (λ tables. lookup_in tables class name) c.in_ok-classes.ensures.fields ∙ field_told text class name;
      methods_told = λ class name. ap (λ tables. lookup_in tables class name) c.in_ok-classes.ensures.methods ∙ method_told text class name;
      statics_told = λ number. ap (λ table. unwrap_or (slice_get table number) false) (c.in_ok-statics.ensures ∙ ap static_table c.requires.methods) ∙ static_told text number;
      names_told = λ name. (λ j. unwrap_or (lookup (bytes_eq name) (names j)) (unknown j)) ∙ name_told text name;
    }
