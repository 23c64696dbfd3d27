-- The texts of the statements that return one item after another.
use Rattle.std.specs.Prelude.{ℕ, List, codes}
use Rattle.desk_sql.specs.declared.versions.Version.{Version}
use Rattle.desk_sql.specs.declared.versions.Version.TheVariants.{One, Two}

-- in tables of each version
abbrev pub next_item_text : Version → List ℕ
next_item_text One = codes "SELECT num, item, a, b FROM entry WHERE journey = ?1 AND num > ?2 ORDER BY num"
next_item_text Two = codes "SELECT num, item, a, b FROM entry2 WHERE journey = ?1 AND num > ?2 ORDER BY num"
