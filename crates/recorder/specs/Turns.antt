-- What begin and a turn come to.
use Rattle.std.specs.Prelude.{◌≡◌, ℕ, zero, suc, ◌+◌, ◌*◌, Bool, cond, not, List, [], ◌∷◌, ◌++◌, map, length, replicate, Some, None, Ok, Err, Option, Result, ◌==◌, nat_le, slice_index_or, slice_set}
use Rattle.accesses.specs.Histories.{untouched, candidates_at, remembering}
use Rattle.accesses.specs.declared.access.Access.{Access}
use Rattle.accesses.specs.declared.access.Candidate.{Candidate}
use Rattle.accesses.specs.declared.history.CellHistory.{CellHistory}
use Rattle.cores.specs.Acting.{request_numbers, OthersKept}
use Rattle.cores.specs.Memory.{Rules, brought, stored}
use Rattle.cores.specs.declared.interface.Request.{Request}
use Rattle.logs.specs.Lawful.{whole}
use Rattle.records.specs.Format.{LogArc, arc, end, written, splice}
use Rattle.records.specs.Settings.{heading_of, settled, can_begin}
use Rattle.records.specs.declared.settings.Sizes.{Sizes}
use Rattle.reducers.specs.Calls.{notes, Does}
use Rattle.reducers.specs.Numbers.{Numbers, Meets, zeros}
use Rattle.recorder.specs.Judged.{Judged, arcs_to, last_of, moved}
use Rattle.recorder.specs.Refusals.{Book, book, number_of, touched, barred, log_in, counted_in, started}
use Rattle.recorder.specs.declared.arcs.Tail.{Tail}
use Rattle.recorder.specs.declared.recording.Recorded.{Recorded}
use Rattle.recorder.specs.declared.recording.Recorder.{Recorder}
use Rattle.recorder.specs.declared.rules.Refusal.{Refusal}
use Rattle.recorder.specs.declared.rules.Touch.{Touch}

-- the store with a log of no arcs and no instructions for a core
abbrev pub headed : Sizes → ℕ → List ℕ → List ℕ
headed z core store = splice (core * z.log_bytes) (written (whole (heading_of z core) [] 0)) store

-- the same for k cores, from a core on
unfoldable pub headed_from : Sizes → ℕ → ℕ → List ℕ → List ℕ
headed_from z zero core store = store
headed_from z (suc k) core store = headed_from z k (core + 1) (headed z core store)

-- the candidates of what core j of P does to the cells
abbrev pub candidates_for : ℕ → List CellHistory → ℕ → Option Touch → List (Option Candidate)
candidates_for P history j None = []
candidates_for P history j (Some t) = candidates_at P history t.cell j t.kind

abbrev pub remembered_as : List CellHistory → Access → Option Touch → List CellHistory
remembered_as history by None = history
remembered_as history by (Some t) = remembering history t.cell by t.kind

-- the numbers after each candidate, and m after the note, each meets its bound from the one before
abbrev pub Within : Meets → ℕ → List CellHistory → ℕ → Option Touch → Numbers → List Numbers → Numbers → Type 0
Within meets P history j None n trail m = (trail ≡ []) × (m ≡ n)
Within meets P history j (Some t) n trail m =
    Judged meets t.cell j n (candidates_at P history t.cell j t.kind) trail × Does meets (last_of n trail) (notes j t.cell t.kind) m

-- the arcs of an access were appended and taken, and the access noted
pub record Accessed (meets : Meets) (z : Sizes) (history : List CellHistory) (by : Access) (touch : Option Touch) (n n' : Numbers)
    (t : Tail) (store : List ℕ) (t' : Tail) (store' : List ℕ) : Type 0 where
  pub trail : List Numbers
  pub within : Within meets z.cores history by.core touch n trail n'
  pub bytes : store' ≡ splice (by.core * z.log_bytes + t.offset) (written (map arc (arcs_to by n (candidates_for z.cores history by.core touch) trail))) store
  pub tail : t' ≡ moved t (arcs_to by n (candidates_for z.cores history by.core touch) trail)

-- the recorder's own side: store, ledger, remembered accesses and the reducer's numbers
pub record Tape : Type 0 where
  pub store : List ℕ
  pub book : Book
  pub history : List CellHistory
  pub numbers : Numbers

-- no access, count or number yet
abbrev pub fresh_tape : Sizes → List ℕ → Tape
fresh_tape z store = record { store = store; book = started z; history = replicate 256 untouched; numbers = zeros }

abbrev pub tape : {R : Type 0} → (R → Numbers) → Recorder R → List ℕ → Tape
tape numbers r store = record { store = store; book = book r.ledger; history = r.history.cells; numbers = numbers r.reducer }

-- the access that j's next instruction is remembered as
abbrev pub next_access : Book → ℕ → Access
next_access b j = record { core = j; count = (log_in b j).instructions + 1; position = b.position + 1 }

-- the arcs of j's next instruction, given the numbers after each candidate
abbrev pub new_arcs : Tape → ℕ → Request → List Numbers → List LogArc
new_arcs t j request trail =
    arcs_to (next_access t.book j) t.numbers (candidates_for t.book.sizes.cores t.history j (touched request)) trail

-- j goes on with a request: arcs and end record are written from the old end's place on
abbrev pub entered : Tape → ℕ → Request → List Numbers → Numbers → Tape
entered t j request trail m =
    let b = t.book in
    let log = log_in b j in
    let arcs = new_arcs t j request trail in
    let k = log.arcs + length arcs in
    record {
      store = splice (j * b.sizes.log_bytes + log.end) (written (map arc arcs ++ (end (log.instructions + 1) k ∷ []))) t.store;
      book = counted_in b j k (log.end + length (written (map arc arcs)));
      history = remembered_as t.history (next_access b j) (touched request);
      numbers = m;
    }

pub record Entered (meets : Meets) (t : Tape) (j : ℕ) (request : Request) (arcs : ℕ) (t' : Tape) : Type 0 where
  pub trail : List Numbers
  pub last : Numbers
  pub within : Within meets t.book.sizes.cores t.history j (touched request) t.numbers trail last
  pub counts : arcs ≡ length (new_arcs t j request trail)
  pub same : t' ≡ entered t j request trail last

-- all that a call can change
pub record World : Type 0 where
  pub tape : Tape
  pub cells : List ℕ
  pub states : List (List ℕ)

abbrev pub world : Tape → List ℕ → List (List ℕ) → World
world t cells states = record { tape = t; cells = cells; states = states }

-- the recorder, the cores, the cells and the store, by what they mean
abbrev pub scene : {R K : Type 0} → (R → Numbers) → (K → List ℕ) → Recorder R → List K → List ℕ → List ℕ → World
scene numbers state r cores cells store = world (tape numbers r store) cells (map state cores)

-- what a turn answers, and the world after it
pub record Answered : Type 0 where
  pub says : List ℕ
  pub leaves : World

abbrev pub answered : List ℕ → World → Answered
answered says w = record { says = says; leaves = w }

-- an answer as numbers: 0, request, count, number brought and arcs logged, or the refusal's number
abbrev pub done_said : Request → ℕ → ℕ → ℕ → List ℕ
done_said request count number arcs = 0 ∷ (request_numbers request ++ (count ∷ number ∷ arcs ∷ []))

abbrev pub said : Result Recorded Refusal → List ℕ
said (Ok d) = done_said d.request d.count d.number d.arcs
said (Err r) = number_of r ∷ []

abbrev pub ready : World → Bool
ready w = settled w.tape.book.sizes (length w.states) (length w.cells) (length w.tape.store)

-- what core j requests next
abbrev pub asks : Rules → ℕ → World → Request
asks K j w = K.next (slice_index_or w.states j [])

-- why a turn of j is refused, in the order of the tests; 0 where it is not
unfoldable pub refusal : Rules → ℕ → World → ℕ
refusal K j w = cond (not (ready w)) 8 (cond (nat_le w.tape.book.sizes.cores j) 1 (barred w.tape.book j (asks K j w)))

-- a turn of j, given the reducer's numbers after each candidate and after the note
unfoldable pub turned : Rules → ℕ → World → List Numbers → Numbers → Answered
turned K j w trail m =
    let request = asks K j w in
    let number = brought request w.cells in
    cond (refusal K j w == 0)
    (answered
    (done_said request ((log_in w.tape.book j).instructions + 1) number (length (new_arcs w.tape j request trail)))
    (world (entered w.tape j request trail m) (stored request w.cells) (slice_set w.states j (K.after (slice_index_or w.states j []) number))))
    (answered (refusal K j w ∷ []) w)

-- there are numbers within their bounds, and given them the turn's outcome is the one defined
pub record Turned (meets : Meets) (K : Rules) (j : ℕ) (w : World) (o : Answered) : Type 0 where
  pub trail : List Numbers
  pub last : Numbers
  pub within : refusal K j w ≡ 0 → Within meets w.tape.book.sizes.cores w.tape.history j (touched (asks K j w)) w.tape.numbers trail last
  pub same : o ≡ turned K j w trail last

-- a turn of core j changes no other core, and a refused one changes none
abbrev pub kept : {K : Type 0} → Result Recorded Refusal → ℕ → List K → List K → Type 0
kept (Ok d) j before later = OthersKept j before later
kept (Err r) j before later = later ≡ before

-- a refusal leaves a thing as it was
abbrev pub unmoved : {A E X : Type 0} → Result A E → X → X → Type 0
unmoved (Ok d) before later = Unit {0}
unmoved (Err r) before later = later ≡ before

-- what begin answers, and the recorder's side after it; cells and cores are only looked at
pub record Begun : Type 0 where
  pub says : List ℕ
  pub leaves : Tape

abbrev pub begun_said : Result (Unit {0}) Refusal → List ℕ
begun_said (Ok d) = 0 ∷ []
begun_said (Err r) = number_of r ∷ []

-- begin with sizes, over so many cores and cells
unfoldable pub begun : Sizes → ℕ → ℕ → Tape → Begun
begun z cores cells t =
    cond (can_begin z cores cells (length t.store))
    (record { says = 0 ∷ []; leaves = fresh_tape z (headed_from z z.cores 0 t.store) })
    (record { says = 8 ∷ []; leaves = t })
