-- What a read keeps. For the functions that read.
use Rattle.std.proofs.Common.{◌≡◌, inl, inr, Bool, true, false, IsTrue, refl, sym, ◌∙◌, arith, rules}
use Rattle.sqlite.specs.Tree.{Trees}
use Rattle.sqlite.specs.State.{State as Connected, HasCleanDisk, Survives}
use Rattle.desk_sql.specs.declared.versions.Version.{Version}
use Rattle.desk_sql.specs.Calls.{SeesIn, MaySeeIn}
use Rattle.desk_sql.specs.Rows.{Tables, no_rows}
use Rattle.ledger.specs.Answer.{State}
use Rattle.sql_model.specs.Standing.{StandsIn}
use Rattle.sql_model.specs.Keeping.{AreTreesOf, IsKeptIn, SeesOf}

-- the tables that a connection which keeps a state may see, and which represent it if it is open
pub record IsSeen (v : Version) (c : Connected) (s : State) : Type 0 where
  pub tables : Tables
  pub may : MaySeeIn v c tables
  pub stands : IsTrue c.is_open → StandsIn v tables s

-- each connection that keeps a state has such tables, open or not
pub seen_by : {v : Version} (c : Connected) (s : State) → IsKeptIn v c s → IsSeen v c s
seen_by {v} c s kept = by_cases c.is_open refl
  where
    by_cases : (b : Bool) → c.is_open ≡ b → IsSeen v c s
    by_cases true e = let saw = kept.sees e in
        record { tables = saw.tables; may = λ _. record { schema = saw.schema; rows = saw.shown; sound = saw.sound }; stands = λ _. saw.stands }
    by_cases false e =
        let shut : IsTrue c.is_open → ⊥ = λ live. (let no : true ≡ false = sym live ∙ e in cc) in
        record { tables = no_rows; may = λ live. absurd (shut live); stands = λ live. absurd (shut live) }

-- trees in which a connection sees tables of a version list a schema of that version, and obey it
pub is_database : {v : Version} (c : Connected) (t : Tables) → SeesIn v c t → AreTreesOf v c.now.trees
is_database c t sees = record { schema = c.now.schema; known = sees.schema; sound = sees.sound }

-- what a crash may leave after a read, it could leave before
pub left_before : (a b : Connected) → Survives a b (λ _. ⊥) → HasCleanDisk b → (db : Trees) → b.may_leave db → a.may_leave db
left_before a b less clean db may = elim (less.crash clean db may) [ inl before ↦ before | inr none ↦ absurd none ]

-- a connection still sees a desk if both of its databases are as before
pub same_desk : {v : Version} (a b : Connected) (s : State) → SeesOf v a s → b.now ≡ a.now → b.committed ≡ a.committed → SeesOf v b s
same_desk {v} a b s saw now committed = search (rules, arith)
