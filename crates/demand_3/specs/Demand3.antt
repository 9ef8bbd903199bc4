-- Demand 3, in the client's words (document 01, "The runs of demand 3"):
--
--   "The working channel starts fresh, with an accepted list. The calls are a single cycle, then the device word of its channel word
--   and the other's (position, input word, acknowledgement; the report and the other channel's word are anything at all) and a log,
--   accepted, empty or refused, with the working channel as A or B beside any other channel. Each call gets the working channel as
--   the last one returned or left it; nobody else writes it meanwhile. Cycles, those of accepted logs too, count through the whole
--   list. Demand 3 is a single claim about the list, not one for each call.
--
--   Cause, fresh, effective, entered, held and reference are what steps 1 to 5 make of the machine data and the calls' cycles and
--   reports, never read from the returned working channel. [..] What is claimed of ranks and of a word's bits is read from the channel
--   words and device words that the calls give [..]. Where the device rank is 5, bit 0 of the device word is 0.
--
--   - A limit in force is overstepped where cause 2, 3 or 4 stands; the device rank is then at least that cause's rank.
--   - A cycle clears if it is acknowledged and has no fresh cause. Until one after cycle n clears: if C, D or E with time t is entered
--     in n, the channel word has that rank and bit 27, or a greater rank, from n + t on. If cause 1 stands in n, the device rank is 5
--     from n on. If cause 9 stands in n, the device rank is 4 or 5 in n, and 5 from n + datum 32 on. If cause 10 stands in n, the
--     device rank is 5 from n + datum 34 + datum 32 on.
--   - Where a usable cycle and the last usable ones before it, as many as datum 27 says, all select X or something stricter, the
--     effective selection in it is X or stricter, and bits 0 and 19-20 of the channel word are those of the effective selection.
--   - The device rank is never below the channel word's, which is lower than in the cycle before only in a cycle that clears."
--
-- Request W2, of cause 10: "The bound on cycles after a position difference then holds for axes on which one of these is active throughout."
-- Request W6: "Cause 14 has the rank of datum 71 and, from the start of its watch, joins 2, 3 and 4 as a limit of demand 3." When it stands, with no watch
-- kept, is the theorem of direction_history.
-- Request W7: "A commit never lowers a stop, and cycle bounds read the list in force when a count was started, or cut (then from the next cycle). Asking,
-- refused or not, and committing, with or without a pending list, join the calls of demand 3; "stricter" there means under every list in force in the cycles
-- counted."
--
-- How to read these files. This one ends with `Demand3`, the theorem's statement, proved in proofs/Demand3.antt. It speaks of every list of words that the
-- list reader accepts, of every list of calls, asks and commits among them, and of all words that these calls may give on the fresh channel: what a call
-- answers is no more than its function's contract ensures (Calls.antt), and each list of calls has an answer (proofs/Answered.antt). The claim is `Claims`
-- (Claims.antt), a field for each sentence above, of the cycles of all the calls, counted from 0, with their reports (`all_cycles`), of the lists that the
-- calls commit before each of them (`all_commits`), of the list in force in each (`list_in`) and the state that it finds (`before`), as the steps and the
-- commits make them of the data and the cycles (History.antt). Lists are what the list reader makes of the words of the first list and of the asks. Ranks and
-- bits are read from the words that the calls gave and from nothing else. From n + t on, until one after n clears, is: in every m with n + t ≤ m, if no cycle
-- after n and up to m clears. `Bounds n i l` says that a count which runs in cycle n reads its time in list l, counted from cycle i: the list in force in n,
-- from n; or a list committed behind n, from the next cycle. A datum is read by `number_of`, in an accepted list as it stands there
-- (machine_data/proofs/Stands.antt). `binds` takes "X or stricter" as equal to X or stricter by the order of step 3, `binds_by_order` as not laxer than X: two
-- SG of equal limit × percent are neither stricter; both follow from `one_of`. `differing_off` asks that one of SBH, SG, SE and cams is active in every usable
-- cycle from n up to m; `ended_off`, which implies it, and `ended_at_once` ask it of one cycle. Where nothing is committed the list in force is the first one,
-- and the bounds are those of document 01 (OneList.antt). Wordings that would be false are in crates/worked/specs/Wordings.antt.
use Rattle.std.specs.Prelude.{ℕ, List, ◌≡◌, get_or, length, Ok}
use Rattle.machine_data.specs.declared.MachineData.{MachineData}
use Rattle.list.specs.Reading.{read_list}
use Rattle.channel.specs.Cycle.{fresh_channel}
use Rattle.demand_3.specs.Calls.{Call, Words, Answers}
use Rattle.demand_3.specs.History.{all_cycles, all_commits, cycle_at, list_in, before}
use Rattle.demand_3.specs.Claims.{Claims}

-- the words given in cycle n
abbrev pub words_in : List Words → ℕ → Words
words_in given n = get_or given n (record { channel = 0; device = 0 })

-- of calls on a fresh channel with list m, and of words: they are given in each of the cycles, and the claims hold of them
abbrev pub Demanded : MachineData → List Call → List Words → Type 0
Demanded m calls given =
    let cs = cycle_at (all_cycles calls) in
    let commits = all_commits calls in
    let size = length (all_cycles calls) in
    (length given ≡ size)
    × Claims (list_in m commits) (before m commits cs) cs commits size (λ i. (words_in given i).channel) (λ i. (words_in given i).device)

-- "a single claim about the list"
abbrev pub Demand3 : Type 0
Demand3 =
    (s : List ℕ) (n : ℕ) → (read_list s).answer ≡ Ok n →
    (calls : List Call) (given : List Words) → Answers (fresh_channel (read_list s).list) calls given → Demanded (read_list s).list calls given
