-- All that a cycle, a log and a call compute with, under one name. Assumes nothing.
use Rattle.bits.specs.Bits
use Rattle.machine_data.specs.Data
use Rattle.words.specs.Words
use Rattle.records.specs.Records
use Rattle.usable_inputs.specs.Usable
use Rattle.report.specs.Report
use Rattle.runs.specs.Run
use Rattle.speed.specs.Speed
use Rattle.nx_signal.specs.Signal
use Rattle.selection.specs.Selection
use Rattle.stop.specs.Stop
use Rattle.comparison.specs.Comparison
use Rattle.fault.specs.Fault
use Rattle.active.specs.Active
use Rattle.cams.specs.Cams
use Rattle.causes.specs.Causes as Rows
use Rattle.codes_order.specs.Lists
use Rattle.limits.specs.Limits
use Rattle.end_positions.specs.EndPositions
use Rattle.direction.specs.Direction
use Rattle.directions.specs.Directions
use Rattle.channel_word.specs.Word as ChannelWord
use Rattle.judge.specs.Causes
use Rattle.channel.specs.Cycle
use Rattle.channel.specs.Word
use Rattle.device.specs.Device
use Rattle.logs.specs.Run as LogRun
use Rattle.demand_3.specs.Calls
use Rattle.demand_3.specs.History
use Rattle.demand_3.proofs.Answered
use Rattle.worked.specs.Runs

unfoldable pub the_cycle : Unit {0}
unfolding Bits.bit_of Bits.field_of Data.nearest Data.datum_of Data.number_of Data.function_of Data.ratio_of Usable.bits_usable Usable.usable_of Speed.percent_of Speed.speed_of Speed.too_fast Speed.slower_than Run.run_next Signal.released Signal.value_next Signal.below_run Selection.selected_of Selection.stricter Selection.choice_next Stop.stop_next Comparison.position_differs Comparison.run_of Comparison.inputs_differ Report.datum_differs Fault.fault_next Fault.expired Active.active Active.fault_stops Cams.signal_of Cams.cam_of Cams.cams_up_to Rows.strongest_of Rows.fresh_of Lists.wanted Limits.standstill_left EndPositions.outside Limits.external Direction.furthest Direction.direction_next Directions.directions_next Directions.overstepped Directions.watched_of Causes.choice_in Causes.differing_in Causes.differences_in Causes.fault_in Causes.usable_rows Causes.rows_of Cycle.strongest_in Cycle.clears_in Cycle.entered_in Cycle.next ChannelWord.word_by Word.word Device.word_rank Device.device_rank Device.device_of History.givens_of History.history Runs.list_of Runs.cycles_with
the_cycle = tt

unfoldable pub the_calls : Unit {0}
unfolding the_cycle Words.twos Words.datum_word Words.word_of Words.word_at Records.inputs_at Records.ending_at Records.other_at Records.entry_at Records.log_from LogRun.device_cycle LogRun.last_of LogRun.lines_of LogRun.ran_of Calls.words_from Answered.answer Answered.answered
the_calls = tt
