pub mod RingRecordLaws
