-- The texts of the statements.
use Rattle.std.specs.Prelude.{ℕ, List, codes}

-- the texts that create the tables

abbrev pub meta_text : List ℕ
meta_text = codes "CREATE TABLE meta(one INTEGER PRIMARY KEY CHECK(one = 1), version INTEGER NOT NULL, events INTEGER NOT NULL, journeys INTEGER NOT NULL) STRICT"

abbrev pub stock_text : List ℕ
stock_text = codes "CREATE TABLE stock(kind INTEGER NOT NULL CHECK(kind BETWEEN 0 AND 3), supplier TEXT NOT NULL, product TEXT NOT NULL, night INTEGER NOT NULL, allot INTEGER NOT NULL, free INTEGER NOT NULL CHECK(free >= 0 AND free <= allot), PRIMARY KEY(kind, supplier, product, night)) STRICT"

abbrev pub batch_text : List ℕ
batch_text = codes "CREATE TABLE batch(name TEXT NOT NULL PRIMARY KEY, num INTEGER NOT NULL UNIQUE, content BLOB NOT NULL) STRICT"

abbrev pub journey_text : List ℕ
journey_text = codes "CREATE TABLE journey(id INTEGER PRIMARY KEY, num INTEGER NOT NULL UNIQUE, agent TEXT NOT NULL, steps INTEGER NOT NULL, tries INTEGER NOT NULL, pos INTEGER NOT NULL, phase INTEGER NOT NULL CHECK(phase BETWEEN 0 AND 3), target INTEGER NOT NULL, used INTEGER NOT NULL) STRICT"

abbrev pub step_text : List ℕ
step_text = codes "CREATE TABLE step(journey INTEGER NOT NULL REFERENCES journey(id), place INTEGER NOT NULL, opt INTEGER NOT NULL, save INTEGER NOT NULL CHECK(save IN (0, 1)), taken INTEGER NOT NULL CHECK(taken IN (0, 1)), kind INTEGER NOT NULL, supplier TEXT NOT NULL, product TEXT NOT NULL, night INTEGER NOT NULL, nights INTEGER NOT NULL, places INTEGER NOT NULL, PRIMARY KEY(journey, place, opt)) STRICT"

abbrev pub entry_text : List ℕ
entry_text = codes "CREATE TABLE entry(num INTEGER PRIMARY KEY, journey INTEGER NOT NULL REFERENCES journey(id), item INTEGER NOT NULL CHECK(item BETWEEN 0 AND 2), a INTEGER NOT NULL, b INTEGER NOT NULL) STRICT"

abbrev pub answer_text : List ℕ
answer_text = codes "CREATE TABLE answer(agent TEXT NOT NULL, mark TEXT NOT NULL, ask BLOB NOT NULL, reply TEXT NOT NULL, PRIMARY KEY(agent, mark)) STRICT"

abbrev pub entry2_text : List ℕ
entry2_text = codes "CREATE TABLE entry2(num INTEGER PRIMARY KEY, journey INTEGER NOT NULL REFERENCES journey(id), item INTEGER NOT NULL CHECK(item BETWEEN 0 AND 3), a INTEGER NOT NULL, b INTEGER NOT NULL) STRICT"

abbrev pub mark_text : List ℕ
mark_text = codes "CREATE TABLE mark(journey INTEGER NOT NULL REFERENCES journey(id), pos INTEGER NOT NULL, PRIMARY KEY(journey, pos)) STRICT"

-- the texts that write

abbrev pub insert_meta_text : List ℕ
insert_meta_text = codes "INSERT INTO meta VALUES (1, ?1, 0, 0)"

abbrev pub update_meta_text : List ℕ
update_meta_text = codes "UPDATE meta SET version = ?1, events = ?2, journeys = ?3 WHERE one = 1"

abbrev pub insert_journey_text : List ℕ
insert_journey_text = codes "INSERT INTO journey VALUES (?1, ?2, ?3, ?4, ?5, ?6, ?7, ?8, ?9)"

abbrev pub insert_step_text : List ℕ
insert_step_text = codes "INSERT INTO step VALUES (?1, ?2, ?3, ?4, 0, ?5, ?6, ?7, ?8, ?9, ?10)"

abbrev pub insert_answer_text : List ℕ
insert_answer_text = codes "INSERT INTO answer VALUES (?1, ?2, ?3, ?4)"

abbrev pub move_journey_text : List ℕ
move_journey_text = codes "UPDATE journey SET pos = ?2, phase = ?3, target = ?4, used = ?5 WHERE id = ?1"

abbrev pub mark_step_text : List ℕ
mark_step_text = codes "UPDATE step SET taken = ?4 WHERE journey = ?1 AND place = ?2 AND opt = ?3"

abbrev pub insert_item_text : List ℕ
insert_item_text = codes "INSERT INTO entry2 VALUES (?1, ?2, ?3, ?4, ?5)"

abbrev pub insert_batch_text : List ℕ
insert_batch_text = codes "INSERT INTO batch VALUES (?1, ?2, ?3)"

abbrev pub insert_mark_text : List ℕ
insert_mark_text = codes "INSERT INTO mark VALUES (?1, ?2)"

abbrev pub delete_mark_text : List ℕ
delete_mark_text = codes "DELETE FROM mark WHERE journey = ?1 AND pos = ?2"

abbrev pub shift_nights_text : List ℕ
shift_nights_text = codes "UPDATE stock SET free = free - ?4 WHERE kind = ?1 AND supplier = ?2 AND product = ?3 AND night BETWEEN ?5 AND ?6"

abbrev pub put_cell_text : List ℕ
put_cell_text = codes "INSERT INTO stock VALUES (?1, ?2, ?3, ?4, ?5, ?6) ON CONFLICT(kind, supplier, product, night) DO UPDATE SET allot = excluded.allot, free = excluded.free"

-- the texts that read

abbrev pub read_meta_text : List ℕ
read_meta_text = codes "SELECT version, events, journeys FROM meta WHERE one = 1"

abbrev pub find_answer_text : List ℕ
find_answer_text = codes "SELECT ask, reply FROM answer WHERE agent = ?1 AND mark = ?2"

abbrev pub find_journey_text : List ℕ
find_journey_text = codes "SELECT id, num, agent, steps, tries, pos, phase, target, used FROM journey WHERE id = ?1"

abbrev pub first_unfinished_text : List ℕ
first_unfinished_text = codes "SELECT id, num, agent, steps, tries, pos, phase, target, used FROM journey WHERE id > ?1 AND phase <= 1 ORDER BY id"

abbrev pub find_steps_text : List ℕ
find_steps_text = codes "SELECT place, opt, save, taken, kind, supplier, product, night, nights, places FROM step WHERE journey = ?1 ORDER BY place, opt"

abbrev pub find_options_text : List ℕ
find_options_text = codes "SELECT place, opt, save, taken, kind, supplier, product, night, nights, places FROM step WHERE journey = ?1 AND place = ?2 ORDER BY place, opt"

abbrev pub find_items_text : List ℕ
find_items_text = codes "SELECT num, item, a, b FROM entry2 WHERE journey = ?1 AND num > ?2 ORDER BY num"

abbrev pub find_marks_text : List ℕ
find_marks_text = codes "SELECT pos FROM mark WHERE journey = ?1 ORDER BY pos"

abbrev pub find_nights_text : List ℕ
find_nights_text = codes "SELECT night, allot, free FROM stock WHERE kind = ?1 AND supplier = ?2 AND product = ?3 AND night BETWEEN ?4 AND ?5 ORDER BY night"

abbrev pub find_batch_text : List ℕ
find_batch_text = codes "SELECT num, content FROM batch WHERE name = ?1"
