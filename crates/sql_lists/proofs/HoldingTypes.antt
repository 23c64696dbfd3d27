-- The statement of the holders of cells takes a value or NULL for each of its parameters: a case for each choice, since the
-- library computes the types of a statement from the values that it is given. For `holdings`.
use Rattle.std.proofs.Common.{◌≡◌, ℕ, List, [], ◌∷◌, true, Option, None, Some, refl}
use Rattle.sqlite_schema.specs.declared.schema.Index.{Index}
use Rattle.sqlite_typing.specs.Types.{accepts_program}
use Rattle.allotment.specs.declared.codes.Kind.{Kind}
use Rattle.desk_sql.specs.Schema.{schema_with}
use Rattle.desk_sql.specs.declared.versions.Version.{Version}
use Rattle.desk_sql.specs.declared.versions.Version.TheVariants.{One, Two}
use Rattle.sql_lists.specs.HoldingLists.{holdings_query, kind_param, name_param, night_param}

pub holdings_typed : (v : Version) (kind : Option Kind) (supplier product : Option (List ℕ)) (first last : Option ℕ) (extra : List Index)
    → accepts_program (schema_with v extra) [] holdings_query
    (kind_param kind ∷ name_param supplier ∷ name_param product ∷ night_param first ∷ night_param last ∷ []) ≡ true
holdings_typed One None None None None None extra = refl
holdings_typed One None None None None (Some b) extra = refl
holdings_typed One None None None (Some a) None extra = refl
holdings_typed One None None None (Some a) (Some b) extra = refl
holdings_typed One None None (Some p) None None extra = refl
holdings_typed One None None (Some p) None (Some b) extra = refl
holdings_typed One None None (Some p) (Some a) None extra = refl
holdings_typed One None None (Some p) (Some a) (Some b) extra = refl
holdings_typed One None (Some s) None None None extra = refl
holdings_typed One None (Some s) None None (Some b) extra = refl
holdings_typed One None (Some s) None (Some a) None extra = refl
holdings_typed One None (Some s) None (Some a) (Some b) extra = refl
holdings_typed One None (Some s) (Some p) None None extra = refl
holdings_typed One None (Some s) (Some p) None (Some b) extra = refl
holdings_typed One None (Some s) (Some p) (Some a) None extra = refl
holdings_typed One None (Some s) (Some p) (Some a) (Some b) extra = refl
holdings_typed One (Some k) None None None None extra = refl
holdings_typed One (Some k) None None None (Some b) extra = refl
holdings_typed One (Some k) None None (Some a) None extra = refl
holdings_typed One (Some k) None None (Some a) (Some b) extra = refl
holdings_typed One (Some k) None (Some p) None None extra = refl
holdings_typed One (Some k) None (Some p) None (Some b) extra = refl
holdings_typed One (Some k) None (Some p) (Some a) None extra = refl
holdings_typed One (Some k) None (Some p) (Some a) (Some b) extra = refl
holdings_typed One (Some k) (Some s) None None None extra = refl
holdings_typed One (Some k) (Some s) None None (Some b) extra = refl
holdings_typed One (Some k) (Some s) None (Some a) None extra = refl
holdings_typed One (Some k) (Some s) None (Some a) (Some b) extra = refl
holdings_typed One (Some k) (Some s) (Some p) None None extra = refl
holdings_typed One (Some k) (Some s) (Some p) None (Some b) extra = refl
holdings_typed One (Some k) (Some s) (Some p) (Some a) None extra = refl
holdings_typed One (Some k) (Some s) (Some p) (Some a) (Some b) extra = refl
holdings_typed Two None None None None None extra = refl
holdings_typed Two None None None None (Some b) extra = refl
holdings_typed Two None None None (Some a) None extra = refl
holdings_typed Two None None None (Some a) (Some b) extra = refl
holdings_typed Two None None (Some p) None None extra = refl
holdings_typed Two None None (Some p) None (Some b) extra = refl
holdings_typed Two None None (Some p) (Some a) None extra = refl
holdings_typed Two None None (Some p) (Some a) (Some b) extra = refl
holdings_typed Two None (Some s) None None None extra = refl
holdings_typed Two None (Some s) None None (Some b) extra = refl
holdings_typed Two None (Some s) None (Some a) None extra = refl
holdings_typed Two None (Some s) None (Some a) (Some b) extra = refl
holdings_typed Two None (Some s) (Some p) None None extra = refl
holdings_typed Two None (Some s) (Some p) None (Some b) extra = refl
holdings_typed Two None (Some s) (Some p) (Some a) None extra = refl
holdings_typed Two None (Some s) (Some p) (Some a) (Some b) extra = refl
holdings_typed Two (Some k) None None None None extra = refl
holdings_typed Two (Some k) None None None (Some b) extra = refl
holdings_typed Two (Some k) None None (Some a) None extra = refl
holdings_typed Two (Some k) None None (Some a) (Some b) extra = refl
holdings_typed Two (Some k) None (Some p) None None extra = refl
holdings_typed Two (Some k) None (Some p) None (Some b) extra = refl
holdings_typed Two (Some k) None (Some p) (Some a) None extra = refl
holdings_typed Two (Some k) None (Some p) (Some a) (Some b) extra = refl
holdings_typed Two (Some k) (Some s) None None None extra = refl
holdings_typed Two (Some k) (Some s) None None (Some b) extra = refl
holdings_typed Two (Some k) (Some s) None (Some a) None extra = refl
holdings_typed Two (Some k) (Some s) None (Some a) (Some b) extra = refl
holdings_typed Two (Some k) (Some s) (Some p) None None extra = refl
holdings_typed Two (Some k) (Some s) (Some p) None (Some b) extra = refl
holdings_typed Two (Some k) (Some s) (Some p) (Some a) None extra = refl
holdings_typed Two (Some k) (Some s) (Some p) (Some a) (Some b) extra = refl
