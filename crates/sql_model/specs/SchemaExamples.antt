-- A worked example: the trees of a database with one table and one row, and its schema.
use Rattle.std.specs.Prelude.{◌==◌, if◌then◌else◌, ℕ, pos, true, false, List, [], ◌∷◌, codes, Some, refl}
use Rattle.std.specs.Str.{is_utf8, chars}
use Rattle.std.proofs.Common.{arith}
use Rattle.std.proofs.lemmas.Str.{IsUtf8-from_is_utf8}
use Rattle.sqlite_value.specs.declared.keys.Collation.TheVariants.{Binary}
use Rattle.sqlite_value.specs.declared.value.Value.TheVariants.{Null, Int, Text}
use Rattle.sqlite_value.specs.Order.{Row, value_cmp}
use Rattle.sqlite_trees.specs.Objects.{catalog_tree}
use Rattle.sqlite_trees.specs.Sound.{is_sound_list, fits_kind, is_free_name, same_name, begins, may_follow}
use Rattle.sqlite_trees.specs.Tree.{Trees}
use Rattle.sqlite_schema.specs.declared.schema.Kind.TheVariants as kind
use Rattle.sqlite_schema.specs.declared.schema.Constraint.TheVariants.{Datatype, NotNull, Check, PrimaryKey, Unique, ForeignKey}
use Rattle.sqlite_schema.specs.declared.schema.Table.{Table}
use Rattle.sqlite_schema.specs.declared.schema.Schema.{Schema}
use Rattle.sqlite_schema.specs.Rules.{Keeps}
use Rattle.sqlite_catalog.specs.Listing.{IsSound}
use Rattle.sqlite_tied.specs.Compute.{everything}

-- the text that creates the table
abbrev pub notes_text : List ℕ
notes_text = codes "CREATE TABLE note(id INTEGER PRIMARY KEY) STRICT"

-- the table of notes, each of which is a number, in the first tree
abbrev pub notes : Table
notes = record {
  name = codes "note";
  tree = 0;
  columns =
      record { name = codes "id"; kind = kind.Integer; is_strict = true; not_null = false; default = Null; collation = Binary } ∷ [];
  key = Some 0;
  primary = 0 ∷ [];
  uniques = [];
  orders = [];
  checks = [];
  references = [];
  computed = [];
  stamps = record { places = []; terms = []; formats = [] };
  is_counted = false;
}

-- the schema with this table alone
abbrev pub notes_schema : Schema
notes_schema = record { tables = notes ∷ []; indexes = []; views = [] }

-- the row of the list of objects for the table
abbrev pub notes_listed : Row
notes_listed =
    Int (pos 1) ∷ Text (codes "table") ∷ Text (codes "note") ∷ Text (codes "note") ∷ Text notes_text ∷ Int (pos 1)
    ∷ Int (pos 0) ∷ []

-- the table is listed, and has the note 7
abbrev pub note_7 : Trees
note_7 t = if t == catalog_tree then notes_listed ∷ [] else if t == 0 then (Int (pos 7) ∷ Null ∷ []) ∷ [] else []

pub notes_are_sound : IsSound notes_schema note_7
unfolding everything value_cmp is_sound_list fits_kind is_free_name same_name begins may_follow is_utf8 chars lib.Utf8.encode lib.Ieee.is_nan lib.Ieee.lt
notes_are_sound = record {
  lists = record {
    listed = record {
      tables = (
        record {
          described = record {
            low = omega arith;
            id = refl;
            kind_is = refl;
            name_is = refl;
            owner_is = refl;
            shape_is = refl;
            reals_are = refl;
            fits = omega arith;
          };
          sql = notes_text;
          sql_is = refl;
          defined = (notes, refl, refl);
          formed = refl;
          utf8 = IsUtf8-from_is_utf8 notes.name refl;
        },
        tt,
      );
      indexes = tt;
      views = tt;
      owned = tt;
      named = (tt, tt);
      loads = refl;
    };
    guarded = (λ at key none. let no = none in cc, tt);
  };
  obeys = record {
    rules = λ rule. elim rule as (λ r. Keeps r notes_schema note_7) [
      | Datatype ↦ ((refl, tt), tt)
      | NotNull ↦ ((refl, tt), tt)
      | Check ↦ ((refl, tt), tt)
      | PrimaryKey ↦ ((refl, tt), tt)
      | Unique ↦ ((refl, tt), tt)
      | ForeignKey ↦ ((refl, tt), tt)
    ];
    indexed = tt;
  };
}
