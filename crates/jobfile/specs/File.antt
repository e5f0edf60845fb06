-- The job file: the bytes of a job, and the job in bytes.
-- Assumes nothing.
use Rattle.std.specs.Prelude.{ℕ, zero, suc, ◌+◌, ◌*◌, ◌/◌, ◌%◌, ◌<◌, Bool, not, cond, ◌&&◌, ◌||◌, List, [], ◌∷◌, ◌++◌, eqb, ltb, length, get_or}
use Rattle.encoding.specs.Bytes.{from_bytes, to_bytes, part, split, joined}
use Rattle.job.specs.Job.{Action, Job, entries, handover_count, shortest_count}
use Rattle.job.specs.Refusal.{Row, ◌when◌}
use Rattle.job.specs.Valid.{over}
use Rattle.job.specs.declared.Form.{Form}
use Rattle.job.specs.declared.Form.TheVariants.{Four, Five, Six}
use Rattle.job.specs.declared.StoreRule.{StoreRule}
use Rattle.job.specs.declared.StoreRule.TheVariants.{PerStep, PerHour}
use Rattle.job.specs.declared.refusal.Refusal.TheVariants.{FileSize, Offsets, BodySizes}
use Rattle.jobfile.specs.declared.Layout.{Layout}
use Rattle.jobfile.specs.declared.Places.{Places}

-- ── the bytes of a job ──

-- "A head of 20 bytes marks a job under the new rule; its last byte is the reserve"
abbrev pub reserve_bytes : StoreRule → ℕ → List ℕ
reserve_bytes PerStep reserve = []
reserve_bytes PerHour reserve = to_bytes 1 reserve

-- "Head, 19 bytes: number of facts (1 byte), deadline (2), start set (8), goal set (8)", or 20
unfoldable pub head_bytes : Job → List ℕ
head_bytes J =
    to_bytes 1 J.facts
    ++ to_bytes 2 J.deadline
    ++ to_bytes 8 J.start
    ++ to_bytes 8 J.goal
    ++ reserve_bytes J.rule J.reserve

-- "Pools, then stores: 4 bytes for each availability."
abbrev pub amount_bytes : List ℕ → List ℕ
amount_bytes = joined (to_bytes 4)

-- "Actions: length (1 byte), needed, added, deleted (8 bytes each), then 4 bytes for each pool and each store."
unfoldable pub action_bytes : Action → List ℕ
action_bytes a =
    to_bytes 1 a.duration
    ++ to_bytes 8 a.needs
    ++ to_bytes 8 a.adds
    ++ to_bytes 8 a.deletes
    ++ amount_bytes a.pools
    ++ amount_bytes a.stores

-- handovers and shortest lengths are minutes: one byte for each
abbrev pub minute_bytes : List ℕ → List ℕ
minute_bytes = joined (to_bytes 1)

-- "its fifth body, behind the actions, is one byte for each pool"; "A sixth body gives one byte of shortest length for
-- each action; such a file has six entries, and always a fifth body"
abbrev pub extra_bodies : Form → Job → List (List ℕ)
extra_bodies Four J = []
extra_bodies Five J = minute_bytes J.handovers ∷ []
extra_bodies Six J = minute_bytes J.handovers ∷ minute_bytes J.shortest ∷ []

abbrev pub bodies : Job → List (List ℕ)
bodies J =
    head_bytes J
    ∷ amount_bytes J.pools
    ∷ amount_bytes J.stores
    ∷ joined action_bytes J.actions
    ∷ extra_bodies J.form J

-- "entries of 4 bytes, each a body's offset and length in bytes (16 bits each)": the numbers of the entries, where the
-- first body stands at `at`
abbrev pub contents : ℕ → List (List ℕ) → List ℕ
contents at [] = []
contents at (body ∷ rest) = at ∷ length body ∷ contents (at + length body) rest

-- "Contents come first. The bodies follow in the same order without gaps: the first offset is 16", 20 or 24: 4 for
-- each body
abbrev pub content_numbers : List (List ℕ) → List ℕ
content_numbers bs = contents (4 * length bs) bs

abbrev pub file_of_bodies : List (List ℕ) → List ℕ
file_of_bodies bs = joined (to_bytes 2) (content_numbers bs) ++ joined (λ body. body) bs

unfoldable pub file_of : Job → List ℕ
file_of J = file_of_bodies (bodies J)

-- ── the job in bytes ──

-- entry k of the contents, and the body that it names
abbrev pub offset : List ℕ → ℕ → ℕ
offset file k = from_bytes (part file (4 * k) 2)

abbrev pub size : List ℕ → ℕ → ℕ
size file k = from_bytes (part file (4 * k + 2) 2)

abbrev pub body : List ℕ → ℕ → List ℕ
body file k = part file (offset file k) (size file k)

-- "five entries in its contents, first offset 20"; "six entries, first offset 24"; any other has four
abbrev pub form_of : ℕ → Form
form_of first = cond (eqb first 20) Five (cond (eqb first 24) Six Four)

abbrev pub form_in : List ℕ → Form
form_in file = form_of (offset file 0)

-- how many entries the contents of the file have
abbrev pub entries_in : List ℕ → ℕ
entries_in file = entries (form_in file)

-- the length of body k and the body, nothing beyond the form
abbrev pub size_in : List ℕ → ℕ → ℕ
size_in file k = cond (ltb k (entries_in file)) (size file k) 0

abbrev pub body_in : List ℕ → ℕ → List ℕ
body_in file k = cond (ltb k (entries_in file)) (body file k) []

abbrev pub layout_in : List ℕ → Layout
layout_in file =
    record {
      form = form_in file;
      head = size_in file 0;
      pools = size_in file 1;
      stores = size_in file 2;
      actions = size_in file 3;
      handovers = size_in file 4;
      shortest = size_in file 5;
    }

-- the bytes of an action in a job with so many pools and stores
abbrev pub action_size : ℕ → ℕ → ℕ
action_size pools stores = 25 + 4 * pools + 4 * stores

unfoldable pub action_of : ℕ → ℕ → List ℕ → Action
action_of pools stores bytes =
    record {
      duration = from_bytes (part bytes 0 1);
      needs = from_bytes (part bytes 1 8);
      adds = from_bytes (part bytes 9 8);
      deletes = from_bytes (part bytes 17 8);
      pools = split 4 from_bytes (part bytes 25 (4 * pools));
      stores = split 4 from_bytes (part bytes (25 + 4 * pools) (4 * stores));
    }

-- the rule of a job whose head has so many bytes
abbrev pub rule_of : ℕ → StoreRule
rule_of head = cond (eqb head 20) PerHour PerStep

-- the job that the bodies say; a head of 19 bytes has no byte 19, which then reads as 0
unfoldable pub job_of : Form → List ℕ → List ℕ → List ℕ → List ℕ → List ℕ → List ℕ → Job
job_of form head pools stores actions handovers shortest =
    let p = length pools / 4 in
    let s = length stores / 4 in
    record {
      facts = from_bytes (part head 0 1);
      deadline = from_bytes (part head 1 2);
      start = from_bytes (part head 3 8);
      goal = from_bytes (part head 11 8);
      form = form;
      rule = rule_of (length head);
      reserve = from_bytes (part head 19 1);
      pools = split 4 from_bytes pools;
      handovers = split 1 from_bytes handovers;
      stores = split 4 from_bytes stores;
      shortest = split 1 from_bytes shortest;
      actions = split (action_size p s) (action_of p s) actions;
    }

abbrev pub decoded : List ℕ → Job
decoded file =
    job_of (form_in file) (body_in file 0) (body_in file 1) (body_in file 2) (body_in file 3) (body_in file 4) (body_in file 5)

-- ── tests 1 to 3 of a file ──

-- n bodies from entry k on stand in a row: "each next offset is the last one plus its length, and the last body ends
-- with the file"
unfoldable pub gapless : List ℕ → ℕ → ℕ → ℕ → Bool
gapless file at k zero = eqb at (length file)
gapless file at k (suc n) = eqb (offset file k) at && gapless file (at + size file k) (suc k) n

-- a head of 19 bytes, or 20, "and another length is 3"; "pools or stores not a multiple of 4 or over 16 bytes; actions not whole or over 64"; the fifth
-- body "is one byte for each pool, and another length is 3"; "another length of the sixth body is 3"
unfoldable pub missized : Layout → Bool
missized l =
    let action = action_size (l.pools / 4) (l.stores / 4) in
    ltb l.head 19
    || over 20 l.head
    || not (eqb (l.pools % 4) 0)
    || over 16 l.pools
    || not (eqb (l.stores % 4) 0)
    || over 16 l.stores
    || not (eqb (l.actions % action) 0)
    || over 64 (l.actions / action)
    || not (eqb l.handovers (handover_count l.form (l.pools / 4)))
    || not (eqb l.shortest (shortest_count l.form (l.actions / action)))

-- "under 16 or over 4,096 bytes"; with five entries "at least 20 bytes (else 1)", with six "at least 24 bytes, else 1"
abbrev pub wrong_size : List ℕ → Bool
wrong_size file = ltb (length file) (4 * entries_in file) || over 4096 (length file)

-- "an offset or the file's end is not as above"
abbrev pub in_order : List ℕ → Bool
in_order file = gapless file (4 * entries_in file) 0 (entries_in file)

unfoldable pub file_rows : List ℕ → List Row
file_rows file =
    FileSize when wrong_size file
    ∷ Offsets when not (in_order file)
    ∷ BodySizes when missized (layout_in file)
    ∷ []

-- ── what inner functions ask and promise ──

-- the lengths of these bodies, 0 for one that is missing
abbrev pub layout_of : Form → List (List ℕ) → Layout
layout_of form bs =
    record {
      form = form;
      head = length (get_or bs 0 []);
      pools = length (get_or bs 1 []);
      stores = length (get_or bs 2 []);
      actions = length (get_or bs 3 []);
      handovers = length (get_or bs 4 []);
      shortest = length (get_or bs 5 []);
    }

-- where bodies of these lengths stand: "without gaps"
abbrev pub places_of : Layout → Places
places_of l =
    let head = 4 * entries l.form in
    let pools = head + l.head in
    let stores = pools + l.pools in
    let actions = stores + l.stores in
    let handovers = actions + l.actions in
    let shortest = handovers + l.handovers in
    record {
      head = head;
      pools = pools;
      stores = stores;
      actions = actions;
      handovers = handovers;
      shortest = shortest;
      end = shortest + l.shortest;
    }

-- the numbers of six entries, of which a form has the first
abbrev pub numbers_of : Layout → Places → List ℕ
numbers_of l at =
    at.head
    ∷ l.head
    ∷ at.pools
    ∷ l.pools
    ∷ at.stores
    ∷ l.stores
    ∷ at.actions
    ∷ l.actions
    ∷ at.handovers
    ∷ l.handovers
    ∷ at.shortest
    ∷ l.shortest
    ∷ []

-- the lengths of 16 bits that a file's contents give
abbrev pub Small : Layout → Type 0
Small l =
    (l.head < 65536)
    × (l.pools < 65536)
    × (l.stores < 65536)
    × (l.actions < 65536)
    × (l.handovers < 65536)
    × (l.shortest < 65536)
